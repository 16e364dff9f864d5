-- Laws of a block's values.
pub mod Values
pub mod Skipped
