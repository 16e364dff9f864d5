-- What the forecast and its parts answer.
pub mod Lengths
pub mod Foresees
pub mod Answers
