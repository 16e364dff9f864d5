-- What a block adds to the sum.
pub mod Sums
pub mod Fields
pub mod Blocks
