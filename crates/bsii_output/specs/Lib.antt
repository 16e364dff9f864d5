-- What the text call answers.
pub mod Answers
