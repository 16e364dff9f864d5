-- What the code's types mean, in the specification's terms.
pub mod Kinds
