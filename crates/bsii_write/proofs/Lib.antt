pub mod NumberLaws
pub mod RunLaws
