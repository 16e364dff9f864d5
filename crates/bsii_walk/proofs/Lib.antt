pub mod Parts
pub mod Answered
pub mod HeadKinds
pub mod Meeting
pub mod Naming
pub mod Seeking
pub mod Loops
pub mod Searching
