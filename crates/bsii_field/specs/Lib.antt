-- What the answers mean.
pub mod Answers
