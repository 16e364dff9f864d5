-- What is passed without a check.
pub mod Unchecked
pub mod Exact
