-- A float and its bits.
use Rattle.std.proofs.Common.{◌≡◌, ℕ, ◌<◌, Bool, true, false, cond, refl}
use lib.Ieee.{binary32, is_nan, of_bits, to_bits}
use lib.Ieee.Bits.{to_bits-of_bits}
use Rattle.bsii_float.specs.Bits.{bits_of}

-- bits that were made a float, and stand beside it, come back
pub bits_back : (b : ℕ) → b < 0x1_0000_0000 → bits_of (of_bits binary32 b) b ≡ b
bits_back b h = go (is_nan (of_bits binary32 b)) refl
  where
    go : (t : Bool) → is_nan (of_bits binary32 b) ≡ t → cond t b (to_bits binary32 (of_bits binary32 b)) ≡ b
    go true e = refl
    go false e = to_bits-of_bits binary32 b h (rw e tt)
