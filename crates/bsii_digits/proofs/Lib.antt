pub mod DigitLaws
pub mod Tables
pub mod Fills
pub mod Counts
