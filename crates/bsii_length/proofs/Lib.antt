-- How long a text can be (Bounded) and must be (Asked), and how many characters a word has (Words).
pub mod Digits
pub mod Taken
pub mod Elements
pub mod Lines
pub mod Records
pub mod Bounded
pub mod Asked
pub mod Words
