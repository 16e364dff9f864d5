-- What a store does where there is room for its text: the text stands from an index on, and the answer is the index behind it.
use Rattle.std.specs.Prelude.{ℕ, ◌+◌, ◌≡◌, List, length}
use Rattle.std.proofs.lemmas.List.Edits.{sets}

pub record Stored (old : List ℕ) (to : ℕ) (text : List ℕ) (r : ℕ) (new : List ℕ) : Type 0 where
  pub next : r ≡ to + length text
  pub output : new ≡ sets old to text
