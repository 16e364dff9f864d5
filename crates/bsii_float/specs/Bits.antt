-- Floats and their bits. lib.Ieee has one NaN, so a NaN's bits are not the float's own.
use Rattle.std.specs.Prelude.{ℕ, cond, List, map, from_bits, is_nan, to_bits, Float}
use Rattle.std.specs.Float.{binary32}
use Rattle.bsii_float.specs.declared.floats.Floats.{Floats}
use Rattle.bsii_float.specs.declared.floats.Bits.{Bits}
use Rattle.bsii_string.specs.NumbersAt.{numbers_at}

-- the bits of a float, those given beside for a NaN
abbrev pub bits_of : Float → ℕ → ℕ
bits_of x n = cond (is_nan x) n (to_bits binary32 x)

-- the floats of the bits
abbrev pub floats_of : {n : ℕ} → Bits n → Floats n
floats_of v = record { items = map (from_bits binary32) v.items }

-- the bits that stand one behind the other from the start on
abbrev pub bits_at : (n : ℕ) → List ℕ → Bits n
bits_at n s = record { items = numbers_at n 4 s 0 }
