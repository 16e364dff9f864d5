-- What is written for a value that was accepted.
pub mod Lines
