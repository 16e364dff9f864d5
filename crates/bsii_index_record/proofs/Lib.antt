-- Laws of an index in bytes.
pub mod Numbers
pub mod Records
pub mod Agreeing
