-- Laws of the index calls.
pub mod Counting
pub mod Checking
pub mod Writing
