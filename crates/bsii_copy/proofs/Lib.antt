pub mod Stores
pub mod Copies
