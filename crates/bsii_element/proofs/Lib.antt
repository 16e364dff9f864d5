-- The laws that the proofs share. PlacedElements says where an array's elements stand, Call what the call answers,
-- SignedBits how signed numbers and their bits are related.
pub mod Ended
pub mod PlacedElements
pub mod Call
pub mod SignedBits
