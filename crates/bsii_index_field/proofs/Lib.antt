-- Laws of the look-up by an index.
pub mod Heads
pub mod Definitions
pub mod BlockHeads
pub mod Values
pub mod Looks
