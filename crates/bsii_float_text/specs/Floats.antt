-- The texts of floats, each beside the bits that stand in where it is a NaN.
use Rattle.std.specs.Prelude.{ℕ, zero, suc, cond, eqb, List, [], ◌∷◌, ◌++◌, get_or, take, drop, Float}
use Rattle.std.specs.Float.{binary32, nan}
use Rattle.std.specs.Float.Ieee.{add, of_int}
use Rattle.bsii_format.specs.Ascii.{ascii}
use Rattle.bsii_format.specs.Floats.{float_text, floor_mod, floor_div, coefficient, sector_offset, quieted}
use Rattle.bsii_float.specs.Bits.{bits_of}
use Rattle.bsii_float.specs.Texts.{row_text}

abbrev pub float_with : Float → ℕ → List ℕ
float_with f n = float_text (bits_of f n)

-- the texts of floats, one by one
abbrev pub texts_with : List Float → List ℕ → List (List ℕ)
texts_with [] l = []
texts_with (f ∷ fs) [] = []
texts_with (f ∷ fs) (n ∷ ns) = float_with f n ∷ texts_with fs ns

-- two, three or four floats
unfoldable pub row_with : List Float → List ℕ → List ℕ
row_with v n = row_text (texts_with v n)

-- what stands before the float at an index, of so many: four have `; ` before the second
abbrev pub mark : ℕ → ℕ → List ℕ
mark n zero = ascii "("
mark n (suc zero) = cond (eqb n 4) (ascii "; ") (ascii ", ")
mark n (suc (suc i)) = ascii ", "

-- a placement of version 1, as it stands
unfoldable pub vec7_with : List Float → List ℕ → List ℕ
vec7_with v n = row_with (take 3 v) (take 3 n) ++ ascii " " ++ row_with (drop 3 v) (drop 3 n)

-- a coordinate in a sector
abbrev pub in_sector : Float → ℕ → Float
in_sector f k = add binary32 f (of_int binary32 (sector_offset k))

-- the position with its sector, and the bits of NaNs there
abbrev pub position_of : List Float → List ℕ → List Float
position_of v n =
    let c = coefficient (bits_of (get_or v 3 nan) (get_or n 3 0)) in
    in_sector (get_or v 0 nan) (floor_mod c 4096) ∷ get_or v 1 nan ∷ in_sector (get_or v 2 nan) (floor_mod (floor_div c 4096) 4096) ∷ []

abbrev pub position_bits : List ℕ → List ℕ
position_bits n = quieted (get_or n 0 0) ∷ get_or n 1 0 ∷ quieted (get_or n 2 0) ∷ []

unfoldable pub placement_with : List Float → List ℕ → List ℕ
placement_with v n = row_with (position_of v n) (position_bits n) ++ ascii " " ++ row_with (drop 4 v) (drop 4 n)
