-- What a writer does: the text goes into the window as far as it falls into it, and the position moves behind the text.
use Rattle.std.specs.Prelude.{ℕ, ◌+◌, ◌-◌, ◌<◌, ◌≡◌, cond, List, length, drop, leb}
use Rattle.std.proofs.lemmas.List.Edits.{sets}

-- the position n bytes behind a position, and 2^64 - 1 for all that lie there or further on
unfoldable pub capped : ℕ → ℕ → ℕ
capped at n = cond (leb 0xffff_ffff_ffff_ffff (at + n)) 0xffff_ffff_ffff_ffff (at + n)

-- A window with a text from a position on: what lies in front of the window is dropped, and `sets` stores nothing past its end.
unfoldable pub written : List ℕ → ℕ → List ℕ → List ℕ
written old at text = sets old (at - 0x8000_0000_0000_0000) (drop (0x8000_0000_0000_0000 - at) text)

pub record Wrote (old : List ℕ) (at : ℕ) (text : List ℕ) (r : ℕ) (new : List ℕ) : Type 0 where
  pub next : r ≡ capped at (length text)
  pub window : new ≡ written old at text
  -- no slice is longer, so that a position that stays where it is lies past its end
  pub room : length old < 0x8000_0000_0000_0000
