-- The laws that the proofs share. Elements speaks of where things end, NumberRows of places that are computed, NumericTexts and ElementTexts of what is written.
pub mod TypeTable
pub mod NumberRows
pub mod Elements
pub mod NumericTexts
pub mod ElementTexts
