-- The rows of the tree in the order of their ids.
pub mod Moves
pub mod Sort
pub mod Ordered
