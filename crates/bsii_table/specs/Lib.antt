-- What the table holds, and what each function does with it.
pub mod Rows
pub mod Table
pub mod Relation
