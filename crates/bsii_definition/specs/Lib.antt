-- What the answers mean where the format's readers accept.
pub mod Enums
pub mod Pairs
