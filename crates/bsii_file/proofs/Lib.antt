pub mod Lookups
pub mod Definitions
pub mod Rereading
pub mod BlockCalls
pub mod DefinedOnce
