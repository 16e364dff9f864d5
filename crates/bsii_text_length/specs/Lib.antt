pub mod Classes
pub mod Words
