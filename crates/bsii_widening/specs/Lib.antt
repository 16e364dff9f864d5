-- Widening: document 01, "Widening"; FORMAT.md, "Widening". Claim.antt has `Demand3`; the files in front of it say what its words mean, those behind it
-- what any further call can claim, and worked lists.
pub mod Marks
pub mod Insertions
pub mod Parts
pub mod Claim
pub mod Observers
pub mod Indexed
pub mod Splices
pub mod Written
pub mod EveryType
pub mod Example
pub mod Vectors
pub mod Sevens
pub mod IndexExample
