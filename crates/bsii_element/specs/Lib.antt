-- What the answer's cases and the helpers' results mean, in the specification's terms.
pub mod Cases
pub mod Decoded
pub mod Twos
