-- What the code's answers mean, in the specification's terms.
pub mod Answers
pub mod NumbersAt
pub mod States
