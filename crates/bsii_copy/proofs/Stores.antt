-- Pieces that are stored one behind the other.
use Prim.Native.Nat.{ℕ, ◌+◌}
use mathlib.Core.Path.{◌≡◌, ap, ◌∙◌}
use mathlib.Core.List.{List, ◌++◌}
use lib.ListN.{length}
use lib.Seq.{sets}
use Rattle.bsii_window.proofs.Laws.{sets_append}

-- a piece behind what is stored
pub stored_more : (l : List ℕ) (i : ℕ) (x y : List ℕ) {m : List ℕ} (k : ℕ) → m ≡ sets l i x → k ≡ i + length x → sets m k y ≡ sets l i (x ++ y)
stored_more l i x y k e h = ap (λ (n : List ℕ). sets n k y) e ∙ ap (λ (j : ℕ). sets (sets l i x) j y) h ∙ sets_append l i x y
