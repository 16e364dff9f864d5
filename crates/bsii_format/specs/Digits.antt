-- Digits in the text: document 01, "src/bsii_output.rs"; FORMAT.md, "Numbers in the text".
use Rattle.std.specs.Prelude.{ℕ, zero, suc, ◌/◌, ◌%◌, Bool, true, false, List, [], ◌∷◌, ◌++◌, get_or, ltb, ℤ, pos, negsuc}
use Rattle.bsii_format.specs.Ascii.{ascii}

-- digits are lower-case
unfoldable pub digit : ℕ → ℕ
digit d = get_or (ascii "0123456789abcdef") d 0

-- `small` says whether n is one digit; the fuel is above n, so it never runs out
unfoldable pub digits_from : ℕ → ℕ → Bool → ℕ → List ℕ
digits_from base zero small n = []
digits_from base (suc fuel) true n = digit n ∷ []
digits_from base (suc fuel) false n = digits_from base fuel (ltb (n / base) base) (n / base) ++ (digit (n % base) ∷ [])

-- n without leading zeros, and one digit at least
unfoldable pub digits : ℕ → ℕ → List ℕ
digits base n = digits_from base (suc n) (ltb n base) n

abbrev pub decimal : ℕ → List ℕ
decimal = digits 10

abbrev pub hexadecimal : ℕ → List ℕ
hexadecimal = digits 16

-- the last w hexadecimal digits
unfoldable pub hex_padded : ℕ → ℕ → List ℕ
hex_padded zero n = []
hex_padded (suc w) n = hex_padded w (n / 16) ++ (digit (n % 16) ∷ [])

unfoldable pub decimal_int : ℤ → List ℕ
decimal_int (pos n) = decimal n
decimal_int (negsuc n) = ascii "-" ++ decimal (suc n)
