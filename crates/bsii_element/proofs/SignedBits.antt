-- Signed numbers and their bits, for both widths.
use Rattle.std.proofs.Common.{◌≡◌, ℕ, zero, suc, ◌+◌, ◌-◌, ◌*◌, ◌^◌, ◌<◌, refl, sym, ap, ◌∙◌, inl, inr, arith}
use Rattle.std.proofs.Math.Facts.{to_z_pos, to_z-neg}
use Rattle.bsii_format.proofs.Lists.{lt_or_le}
use lib.IntN.{ℤ, pos, negsuc, ◌-ℤ◌}
use borrow.Author.Tests.{lt-ltb, le-ltb}
use mir.Syntax.{Width, w8, w16, w32, w64, w128}
use mir.Val.{bits, hbits, to_z, of_z}
use Rattle.bsii_format.specs.Numbers.{signed}
use Rattle.bsii_element.specs.Twos.{twos}

halves : (w : Width) → 2 ^ bits w ≡ 2 * 2 ^ hbits w
halves w8 = refl
halves w16 = refl
halves w32 = refl
halves w64 = refl
halves w128 = refl

below_zero : (n m k : ℕ) → n + suc k ≡ m → pos n -ℤ pos m ≡ negsuc k
below_zero n zero k e = absurd (omega arith)
below_zero n (suc m) k e = rw (lt-ltb n (suc m) (omega arith)) (ap negsuc (omega arith))

-- the number of some bits
pub signed_is : (w : Width) (n : ℕ) → n < 2 ^ bits w → to_z w n ≡ signed (2 ^ hbits w) n
unfolding signed
signed_is w n h = elim (lt_or_le n (2 ^ hbits w)) [
  | inl low ↦ to_z_pos w low ∙ rw (lt-ltb n (2 ^ hbits w) low)
  | inr high ↦
      let k : ℕ = 2 ^ bits w - suc n in
      let e : n + suc k ≡ 2 * 2 ^ hbits w = omega (arith, halves w) in
      let m : n ≡ 2 ^ bits w - suc k = omega arith in
      ap (to_z w) m ∙ to_z-neg w k (omega (arith, halves w)) ∙ sym (rw (le-ltb n (2 ^ hbits w) high) (below_zero n (2 * 2 ^ hbits w) k e))
]

-- the bits of a number
pub twos_is : (w : Width) (z : ℤ) → of_z w z ≡ twos (2 ^ bits w) z
twos_is w (pos n) = refl
twos_is w (negsuc k) = refl
