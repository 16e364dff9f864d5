pub mod Parts
pub mod Agree
