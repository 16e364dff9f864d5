-- What is written of one element.
pub mod Lines
