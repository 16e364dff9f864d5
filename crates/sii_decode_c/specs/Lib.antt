-- What the exports hand out for each answer of the definitions.
pub mod Exports
pub mod Elements
