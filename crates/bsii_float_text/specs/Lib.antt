-- The texts of floats beside their bits.
pub mod Floats
