-- The laws that the proofs share. Value says what number a float's bits are, for its text (FloatText) and its cut to an i32 (Coefficient).
pub mod Nan
pub mod Bits
pub mod Value
pub mod FloatText
pub mod Coefficient
pub mod Sums
pub mod Rows
