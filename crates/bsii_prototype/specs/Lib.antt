-- What the code's answers mean, and the readers of the second walk.
pub mod Entries
pub mod Answers
pub mod Accepted
pub mod Strings
