-- Lines from their parts.
use mathlib.Core.Path.{◌≡◌}
use Prim.Native.Nat.{ℕ, ◌+◌}
use native.Mathlib.Omega.{arith}
use lib.ListN.{length, length-append}
use mathlib.Core.List.{List, [], ◌∷◌, ◌++◌, append_assoc}
use Rattle.bsii_format.specs.Ascii.{ascii}
use Rattle.bsii_format.specs.Digits.{decimal}
use Rattle.bsii_format.specs.Text.{indexed}

-- the opening of an element's line
pub index_text : (name : List ℕ) (i : ℕ) → ascii "  " ++ name ++ (91 ∷ []) ++ decimal i ++ ascii "]: " ≡ ascii "  " ++ indexed name i ++ ascii ": "
unfolding indexed
index_text name i = simp append_assoc

pub opening_length : (name : List ℕ) → length (ascii "  " ++ name ++ ascii ": ") ≡ length name + 4
opening_length name = let e = length-append name (ascii ": ") in omega (arith, e)
