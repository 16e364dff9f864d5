-- What the floats at a position are, and what floats are in the text.
pub mod Bits
pub mod Texts
pub mod Cut
