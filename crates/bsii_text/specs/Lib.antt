-- What is written for records that were accepted.
pub mod Records
