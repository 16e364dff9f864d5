-- The first line of a block from its parts.
use mathlib.Core.Path.{◌≡◌, ◌∙◌}
use Prim.Native.Nat.{ℕ, ◌+◌, ◌≤◌, ◌<◌}
use mathlib.Core.List.{List}
use lib.ListN.{length}
use Rattle.bsii_format.specs.Ascii.{ascii}
use Rattle.bsii_format.specs.BlockText.{block_opening}
use Rattle.bsii_window.specs.Window.{Wrote}
use Rattle.bsii_window.specs.Stored.{Stored}
use Rattle.bsii_window.specs.Overlaps.{OverlapOf}
use Rattle.bsii_window.specs.declared.window.Overlap.{Overlap}
use Rattle.bsii_window.specs.declared.window.Overlap.TheVariants as place
use Rattle.bsii_window.proofs.Stores.{stored_then, stored_same, stored_inside}
use Rattle.bsii_window.proofs.Laws.{then, same}
use Rattle.bsii_write_id.specs.Ids.{IdStored, IdWritten}
use Rattle.bsii_opening.specs.Blocks.{OpeningWritten}

pub opened : {name raw old : List ℕ} {to a b c r : ℕ} {m₁ m₂ m₃ new : List ℕ} → Wrote old to name a m₁ → Wrote m₁ a (ascii " : ") b m₂ → IdWritten raw m₂ b c m₃ → Wrote m₃ c (ascii " {\n") r new
    → OpeningWritten name raw old to r new
unfolding block_opening
opened {name = name} {raw = raw} w₁ w₂ w₃ w₄ = record {
  writes = λ i e. then (then (then w₁ w₂) (w₃.writes i e)) w₄;
  size = same w₄ ∙ w₃.size ∙ same w₂ ∙ same w₁;
}

-- stored, where the longest lies inside
pub opened_inside : {name raw old : List ℕ} {to start a b c r : ℕ} {m₁ m₂ m₃ new : List ℕ} (n : ℕ) {o : Overlap} → o ≡ place.Inside start → OverlapOf (length old) to n o
    → Stored old start name a m₁ → Stored m₁ a (ascii " : ") b m₂ → IdStored raw m₂ b c m₃ → Stored m₃ c (ascii " {\n") r new → r ≤ start + n → length old < 0x8000_0000_0000_0000
    → OpeningWritten name raw old to (r + 0x8000_0000_0000_0000) new
unfolding block_opening
opened_inside n q h w₁ w₂ w₃ w₄ k l = record {
  writes = λ i e. stored_inside n q h (stored_then (stored_then (stored_then w₁ w₂) (w₃.stores i e)) w₄) k l;
  size = stored_same w₄ ∙ w₃.size ∙ stored_same w₂ ∙ stored_same w₁;
}
