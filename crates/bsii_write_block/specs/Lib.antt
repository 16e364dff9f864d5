-- What is written for blocks that were accepted.
pub mod Blocks
