-- A little-endian number from the bytes at a position.
use mathlib.Core.Path.{◌≡◌, refl, ◌∙◌}
use Prim.Native.Nat.{ℕ, suc, ◌+◌, ◌*◌}
use native.Mathlib.Nat.{add-zero, add_assoc}
use native.Mathlib.Omega.{arith}
use mathlib.Core.List.{List, [], ◌∷◌}
use lib.ListN.{take, drop, get_or}
use lib.Seq.{take-nil, get_or-drop, drop-drop}
use Rattle.bsii_format.specs.Numbers.{little_endian}

first : (w : ℕ) (l : List ℕ) → little_endian (take (suc w) l) ≡ get_or l 0 0 + 256 * little_endian (take w (drop 1 l))
unfolding little_endian
first w [] = rw take-nil
first w (x ∷ l) = refl

-- one byte and the number after it; past the end a byte counts 0
pub byte_more : (w : ℕ) (s : List ℕ) (at : ℕ) → little_endian (take (suc w) (drop at s)) ≡ get_or s at 0 + 256 * little_endian (take w (drop (at + 1) s))
byte_more w s at = first w (drop at s) ∙ simp (get_or-drop, add-zero, drop-drop)

pub one_byte : (s : List ℕ) (at : ℕ) → little_endian (take 1 (drop at s)) ≡ get_or s at 0
unfolding little_endian
one_byte s at = omega (arith, byte_more 0 s at)

pub two_bytes : (s : List ℕ) (at : ℕ) → little_endian (take 2 (drop at s)) ≡ get_or s at 0 + get_or s (at + 1) 0 * 256
two_bytes s at = omega (arith, byte_more 1 s at, one_byte s (at + 1))

pub four_bytes : (s : List ℕ) (at : ℕ) → little_endian (take 4 (drop at s)) ≡ get_or s at 0 + get_or s (at + 1) 0 * 256 + get_or s (at + 2) 0 * 65536 + get_or s (at + 3) 0 * 16777216
four_bytes s at = omega (arith, byte_more 3 s at, simp add_assoc at (byte_more 2 s (at + 1)), simp add_assoc at (two_bytes s (at + 2)))

pub eight_bytes : (s : List ℕ) (at : ℕ) → little_endian (take 8 (drop at s)) ≡ little_endian (take 4 (drop at s)) + little_endian (take 4 (drop (at + 4) s)) * 4294967296
eight_bytes s at =
    omega (
      arith,
      byte_more 7 s at,
      simp add_assoc at (byte_more 6 s (at + 1)),
      simp add_assoc at (byte_more 5 s (at + 2)),
      simp add_assoc at (byte_more 4 s (at + 3)),
      four_bytes s at,
    )
