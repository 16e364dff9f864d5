pub mod Records
pub mod RecordSteps
pub mod Tables
pub mod Passing
pub mod Along
pub mod Passed
pub mod Comparing
pub mod Whole
