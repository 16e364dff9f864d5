-- What the proofs of the code share; Parts is for callers.
pub mod Names
pub mod Bounds
pub mod Values
pub mod Parts
