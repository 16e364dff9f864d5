pub mod FieldLaws
pub mod BlockLaws
