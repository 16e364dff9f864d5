-- The bytes at a buffer's start.
use Rattle.std.specs.Prelude.{ℕ, ◌≤◌, ◌≡◌, List, length, take}

-- the first n bytes of a buffer are all of the text
pub record Starts (buffer : List ℕ) (size : ℕ) (text : List ℕ) : Type 0 where
  pub inside : size ≤ length buffer
  pub bytes : take size buffer ≡ text
