pub mod Rule
pub mod WorkedWords
