pub mod Lookups
pub mod Search
pub mod Laws
pub mod Relation
