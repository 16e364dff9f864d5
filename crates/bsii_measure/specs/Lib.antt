-- What the walk that reads and measures knows of a file.
pub mod InForce
pub mod Walks
pub mod Files
