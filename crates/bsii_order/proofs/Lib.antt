pub mod Swaps
pub mod Moves
pub mod Partitions
pub mod Sorting
pub mod Rows
