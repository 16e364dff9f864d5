-- Rows of elements and whole values, measured.
pub mod Rows
