pub mod Again
pub mod Cursor
pub mod Seek
