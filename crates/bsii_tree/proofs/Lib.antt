pub mod Prefixes
pub mod Searches
pub mod Trees
pub mod Words
pub mod Ids
pub mod Relation
