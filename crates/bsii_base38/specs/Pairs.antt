-- Two digits to base 38 and their characters.
use Rattle.std.specs.Prelude.{ℕ, ◌+◌, ◌*◌, ◌/◌, ◌%◌, ◌<◌, ◌≡◌, Bool, true, cond, List, ◌∷◌, eqb, get_or}
use Rattle.bsii_format.specs.Strings.{char_encodings}

-- a digit's character; 128, which is none, marks the digit 0
unfoldable pub char_of : ℕ → ℕ
char_of d = get_or (128 ∷ char_encodings) d 0

-- "both characters for a remainder by 38 × 38": the lower digit's, which is printed first, in the low byte
unfoldable pub pair_of : ℕ → ℕ
pair_of r = char_of (r % 38) + 256 * char_of (r / 38)

-- the lower digit is 0
unfoldable pub low_zero : ℕ → Bool
low_zero r = eqb (r % 38) 0

-- one of the two digits is 0
unfoldable pub has_zero : ℕ → Bool
has_zero r = cond (low_zero r) true (eqb (r / 38) 0)

-- "a table of 1,444 entries"
pub record CharPairs (t : List ℕ) : Type 0 where
  pub entries : (r : ℕ) → r < 1444 → get_or t r 0 ≡ pair_of r
