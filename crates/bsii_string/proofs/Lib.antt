-- The laws that the proofs share. Ends speaks of where things end.
pub mod Bytes
pub mod Items
pub mod Widths
pub mod Tables
pub mod Keys
pub mod Sequences
pub mod Ends
pub mod Passed
pub mod Texts
pub mod Unchecked
pub mod NumbersAt
