-- What the laws of this crate say of lengths.
pub mod Bounds
