-- Laws of sums, and of what a field, a block's values and a block add to one.
pub mod SumLaws
pub mod FieldLaws
pub mod ValueLaws
pub mod BlockLaws
