-- The tree of the ids while a file is read, and what each function does with it.
pub mod Tree
pub mod Table
pub mod Relation
