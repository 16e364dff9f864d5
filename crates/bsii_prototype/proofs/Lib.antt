-- What the proofs of the code share. For callers: Unchecked says that an unchecked reader gives what the checking one accepted, Turns is one
-- step of a walk over definitions, Inside says that a definition lies in the file, AcceptedLaws has the small answer, and Beginnings has
-- the place of a prototype's name.
pub mod Unchecked
pub mod Names
pub mod Entries
pub mod Lists
pub mod Turns
pub mod Inside
pub mod Beginnings
pub mod AcceptedLaws
