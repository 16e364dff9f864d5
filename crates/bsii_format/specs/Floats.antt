-- Floats and placements in the text, over IEEE 754 as lib.Ieee has it: document 01, "f32:" and "Placement"; document 02, E12; FORMAT.md, "Floats" and
-- "Placements". A float is given by its 32 bits.
use Rattle.std.specs.Prelude.{ℕ, suc, ◌+◌, ◌-◌, ◌*◌, ◌/◌, ◌%◌, Bool, true, false, cond, ◌&&◌, List, ◌++◌, get_or, leb, eqb, ℤ, pos, negsuc, ◌-ℤ◌, ◌*ℤ◌, Float}
use Rattle.std.specs.Float.{nan, inf, fin, binary32}
use Rattle.std.specs.Float.Ieee.{of_bits, to_bits, add, of_int, to_signed, is_nan, up, down}
use Rattle.bsii_format.specs.Ascii.{ascii}
use Rattle.bsii_format.specs.Digits.{decimal, hexadecimal}

-- "`&` and the 32 bits as lower-case hexadecimal digits without leading zeros"
unfoldable pub bits_text : ℕ → List ℕ
bits_text b = ascii "&" ++ hexadecimal b

unfoldable pub minus_if : Bool → List ℕ → List ℕ
minus_if true t = ascii "-" ++ t
minus_if false t = t

-- "a whole number of size at most 10,000,000 in decimal (minus zero is `-0`)". The value `fin s m e` is m * 2^e, and 2^e is up e / down e
unfoldable pub float_text_of : ℕ → Float → List ℕ
float_text_of b nan = bits_text b
float_text_of b (inf s) = bits_text b
float_text_of b (fin s m e) =
    cond (eqb (m * up e % down e) 0 && leb (m * up e / down e) 10_000_000) (minus_if s (decimal (m * up e / down e))) (bits_text b)

unfoldable pub float_text : ℕ → List ℕ
float_text b = float_text_of b (of_bits binary32 b)

-- "Two or three: `(a, b)`, `(a, b, c)`. Four: `(a; b, c, d)`."
unfoldable pub vec2_text : List ℕ → List ℕ → List ℕ
vec2_text a b = ascii "(" ++ a ++ ascii ", " ++ b ++ ascii ")"

unfoldable pub vec3_text : List ℕ → List ℕ → List ℕ → List ℕ
vec3_text a b c = ascii "(" ++ a ++ ascii ", " ++ b ++ ascii ", " ++ c ++ ascii ")"

unfoldable pub vec4_text : List ℕ → List ℕ → List ℕ → List ℕ → List ℕ
vec4_text a b c d = ascii "(" ++ a ++ ascii "; " ++ b ++ ascii ", " ++ c ++ ascii ", " ++ d ++ ascii ")"

-- ---- placements

-- "mod never negative", and floor(c / m)
unfoldable pub floor_mod : ℤ → ℕ → ℕ
floor_mod (pos n) m = n % m
floor_mod (negsuc n) m = m - suc (n % m)

unfoldable pub floor_div : ℤ → ℕ → ℤ
floor_div (pos n) m = pos (n / m)
floor_div (negsuc n) m = negsuc (n / m)

-- "c is f4 cut towards zero and held to the i32 range, 0 for NaN"
unfoldable pub coefficient : ℕ → ℤ
coefficient b = to_signed 31 (of_bits binary32 b)

-- 512 × (k − 2048)
unfoldable pub sector_offset : ℕ → ℤ
sector_offset k = pos 512 *ℤ (pos k -ℤ pos 2048)

-- "its bits with bit 22 set"
unfoldable pub quieted : ℕ → ℕ
quieted b = cond (eqb (b / 0x40_0000 % 2) 0) (b + 0x40_0000) b

-- the bits of f + 512 × (k − 2048): "one rounding per sum, to nearest, ties to even"; of a NaN, its bits with bit 22 set
unfoldable pub sector_sum : ℕ → ℕ → ℕ
sector_sum b k = cond (is_nan (of_bits binary32 b)) (quieted b) (to_bits binary32 (add binary32 (of_bits binary32 b) (of_int binary32 (sector_offset k))))

-- "Placement `(f1', f2, f3') (f5; f6, f7, f8)`", of the bits of the eight
unfoldable pub placement_text : List ℕ → List ℕ
placement_text l =
    let c = coefficient (get_or l 3 0) in
    vec3_text (float_text (sector_sum (get_or l 0 0) (floor_mod c 4096))) (float_text (get_or l 1 0)) (float_text (sector_sum (get_or l 2 0) (floor_mod (floor_div c 4096) 4096)))
    ++ ascii " " ++ vec4_text (float_text (get_or l 4 0)) (float_text (get_or l 5 0)) (float_text (get_or l 6 0)) (float_text (get_or l 7 0))

-- in version 1 "seven f32, printed `(a, b, c) (d; e, f, g)` with no sum made", of the bits of the seven
unfoldable pub vec7_text : List ℕ → List ℕ
vec7_text l =
    vec3_text (float_text (get_or l 0 0)) (float_text (get_or l 1 0)) (float_text (get_or l 2 0))
    ++ ascii " " ++ vec4_text (float_text (get_or l 3 0)) (float_text (get_or l 4 0)) (float_text (get_or l 5 0)) (float_text (get_or l 6 0))
