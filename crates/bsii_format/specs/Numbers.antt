-- Numbers in files: document 01, "Integers in files are little-endian"; FORMAT.md, "Numbers".
use Rattle.std.specs.Prelude.{ℕ, zero, suc, ◌+◌, ◌*◌, ◌/◌, ◌%◌, cond, List, [], ◌∷◌, ltb, ℤ, pos, ◌-ℤ◌}
use Rattle.bsii_format.specs.Reader.{Reader, bytes, ◌<$>◌}

unfoldable pub little_endian : List ℕ → ℕ
little_endian [] = 0
little_endian (b ∷ s) = b + 256 * little_endian s

-- a number of w bytes
unfoldable pub number : ℕ → Reader ℕ
number w = little_endian <$> bytes w

abbrev pub le_u8 : Reader ℕ
le_u8 = number 1

abbrev pub le_u32 : Reader ℕ
le_u32 = number 4

abbrev pub le_u64 : Reader ℕ
le_u64 = number 8

-- n in w bytes, the low ones where it has more
unfoldable pub le : ℕ → ℕ → List ℕ
le zero n = []
le (suc w) n = n % 256 ∷ le w (n / 256)

-- i32 and i64, two's complement: `half` is 2^31 or 2^63
unfoldable pub signed : ℕ → ℕ → ℤ
signed half n = cond (ltb n half) (pos n) (pos n -ℤ pos (2 * half))
