-- What the measuring readers answer.
pub mod Measured
