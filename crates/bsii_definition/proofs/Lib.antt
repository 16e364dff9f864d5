pub mod EnumLaws
pub mod PairLaws
