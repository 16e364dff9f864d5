pub mod NumericLaws
