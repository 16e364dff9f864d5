-- Values says that nothing is lost without the checks, Blocks that a block is passed value by value; Skips is what the proofs of
-- the code share.
pub mod Values
pub mod Blocks
pub mod Skips
