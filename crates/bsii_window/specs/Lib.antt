pub mod Window
pub mod Stored
pub mod Overlaps
