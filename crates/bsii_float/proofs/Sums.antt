-- Sums with a sector's offset: what is added, and that no sum is a NaN but that of a NaN.
use Rattle.std.proofs.Common.{◌≡◌, ℕ, zero, suc, ◌+◌, ◌-◌, ◌*◌, ◌^◌, ◌<◌, ◌≤◌, Bool, true, false, cond, ◌&&◌, ltb, ℤ, pos, ◌-ℤ◌, ◌*ℤ◌, neg_ℤ, refl, ap, ◌∙◌, arith, to_z-of_z, w32, SFits, to_z, of_z, ltb-false, ltb-true, le-ltb, lt-ltb}
use mathlib.Core.Bool.{beq}
use lib.Signed.{mag}
use mir.Facts.{to_z_pos}
use lib.Ieee.{Float, nan, inf, fin, Format, binary32, prec, emax, low, odd, units, round, sum, add, of_bits, to_bits, of_int, is_nan}
use lib.Ieee.Exact.{HasValue}
use lib.Ieee.Back.{round_whole}
use Rattle.bsii_format.specs.Floats.{sector_offset, quieted, sector_sum}
use Rattle.bsii_float.specs.Bits.{bits_of}

-- ---- the offset

offset_below : (k : ℕ) → k < 2048 → sector_offset k ≡ neg_ℤ (pos (512 * (2048 - k)))
unfolding sector_offset
offset_below k h =
    let z : suc (2048 - suc k) ≡ 2048 - k = omega arith in
    rw (lt-ltb k 2048 h) (ap (λ (n : ℕ). neg_ℤ (pos (512 * n))) z)

offset_above : (k : ℕ) → 2048 ≤ k → sector_offset k ≡ pos (512 * (k - 2048))
unfolding sector_offset
offset_above k h = rw (le-ltb k 2048 h)

mag_neg : (n : ℕ) → mag (neg_ℤ (pos n)) ≤ n
mag_neg zero = omega arith
mag_neg (suc n) = omega arith

offset_small : (k : ℕ) → k < 4096 → SFits w32 (sector_offset k)
offset_small k h = go (ltb k 2048) refl
  where
    go : (t : Bool) → ltb k 2048 ≡ t → SFits w32 (sector_offset k)
    go true e = rw (offset_below k (ltb-true k 2048 e)) (record { sfits = omega (arith, mag_neg (512 * (2048 - k))) })
    go false e = rw (offset_above k (ltb-false k 2048 e)) (record { sfits = omega arith })

-- the i32 in which the offset is computed holds it
module _ (k : ℕ) (h : k < 4096) where
  abbrev difference : ℤ
  difference = to_z w32 k -ℤ pos 2048

  pub difference_fits : SFits w32 difference
  difference_fits = rw (to_z_pos w32 {n = k} (omega arith)) (go (ltb k 2048) refl)
    where
      go : (t : Bool) → ltb k 2048 ≡ t → SFits w32 (pos k -ℤ pos 2048)
      go true e = rw e (record { sfits = omega arith })
      go false e = rw e (record { sfits = omega arith })

  pub offset_is : pos 512 *ℤ to_z w32 (of_z w32 difference) ≡ sector_offset k
  unfolding sector_offset
  offset_is = ap (λ (z : ℤ). pos 512 *ℤ z) (to_z-of_z difference_fits ∙ ap (λ (z : ℤ). z -ℤ pos 2048) (to_z_pos w32 {n = k} (omega arith)))

  pub offset_fits : SFits w32 (pos 512 *ℤ to_z w32 (of_z w32 difference))
  offset_fits = rw offset_is (offset_small k h)

-- zero is left out: as an integer it has no sign
of_int_neg : (f : Format) (n : ℕ) → 0 < n → of_int f (neg_ℤ (pos n)) ≡ round f true n 1
unfolding of_int
of_int_neg f zero h = absurd (omega arith)
of_int_neg f (suc n) h = refl

-- ---- NaN

real_odd : (d : ℕ) (s : Bool) (q k l : ℕ) → is_nan (odd d s q k l) ≡ false
unfolding is_nan odd
real_odd d s zero k l = refl
real_odd d s (suc q) k l = refl

real_cond : (b : Bool) (x y : Float) → is_nan x ≡ false → is_nan y ≡ false → is_nan (cond b x y) ≡ false
real_cond true x y p q = p
real_cond false x y p q = q

real_inf : (s : Bool) → is_nan (inf s) ≡ false
unfolding is_nan
real_inf s = refl

real_units : (f : Format) (s : Bool) (q k : ℕ) → is_nan (units f s q k) ≡ false
unfolding units
real_units f s q k = real_cond (ltb (q * 2 ^ k) (2 ^ (low f + suc (emax f)))) _ _ (real_odd (suc (prec f)) s q k (low f)) (real_inf s)

real_round : (f : Format) (s : Bool) (a c : ℕ) → is_nan (round f s a c) ≡ false
unfolding round
real_round f s a c = real_units f s _ _

real_sum : (f : Format) (s : Bool) (a : ℕ) (t : Bool) (b c : ℕ) → is_nan (sum f s a t b c) ≡ false
unfolding sum
real_sum f s a t b c = real_cond (beq s t) _ _ (real_round f s (a + b) c) (real_cond (ltb a b) _ _ (real_round f t (b - a) c) (real_round f (s && ltb b a) (a - b) c))

-- with a finite number
nan_sum : (f : Format) (x y : Float) (u : Bool) (v w : ℕ) → HasValue y u v w → is_nan (add f x y) ≡ is_nan x
unfolding add is_nan
nan_sum f nan y u v w h = refl
nan_sum f (inf s) nan u v w h = absurd h
nan_sum f (inf s) (inf t) u v w h = absurd h
nan_sum f (inf s) (fin t n d) u v w h = refl
nan_sum f (fin s m e) nan u v w h = absurd h
nan_sum f (fin s m e) (inf t) u v w h = absurd h
nan_sum f (fin s m e) (fin t n d) u v w h = real_sum f s _ t _ _

nan_offset : (x : Float) (k : ℕ) → k < 4096 → is_nan (add binary32 x (of_int binary32 (sector_offset k))) ≡ is_nan x
unfolding of_int
nan_offset x k h = go (ltb k 2048) refl
  where
    go : (t : Bool) → ltb k 2048 ≡ t → is_nan (add binary32 x (of_int binary32 (sector_offset k))) ≡ is_nan x
    go true e =
        let l = ltb-true k 2048 e in
        rw (offset_below k l, of_int_neg binary32 (512 * (2048 - k)) (omega arith)) (nan_sum binary32 x _ true (512 * (2048 - k)) 1 (round_whole binary32 true (512 * (2048 - k)) (omega arith)))
    go false e = rw (offset_above k (ltb-false k 2048 e)) (nan_sum binary32 x _ false (512 * (k - 2048)) 1 (round_whole binary32 false (512 * (k - 2048)) (omega arith)))

-- the bits of a sum, where the quiet bits of its float stand in for a NaN's
pub sum_text : (b k : ℕ) → k < 4096 → bits_of (add binary32 (of_bits binary32 b) (of_int binary32 (sector_offset k))) (quieted b) ≡ sector_sum b k
unfolding sector_sum
sum_text b k h = ap (λ (t : Bool). cond t (quieted b) (to_bits binary32 (add binary32 (of_bits binary32 b) (of_int binary32 (sector_offset k))))) (nan_offset (of_bits binary32 b) k h)
