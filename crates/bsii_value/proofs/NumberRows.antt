-- A row of numbers ends at a place that a product gives, or runs out at one that a division gives.
use mathlib.Core.Path.{◌≡◌, ap, ap₂, ◌∙◌}
use Prim.Native.Nat.{ℕ, ◌+◌, ◌-◌, ◌*◌, ◌/◌, ◌^◌, ◌≤◌, ◌<◌}
use native.Mathlib.Nat.{mul-zero, div-mul-le_self, mul-le-mul_right, le_trans, le_of_lt, lt_of_le_of_lt, mul-le-mul_left, mul-lt-mul_of_pos_right, pos_of_ne-zero, div-lt_iff_lt-mul, lt-div-mul-add}
use native.Mathlib.Omega.{arith}
use mathlib.Core.List.{List}
use lib.ListN.{length, drop}
use Rattle.bsii_format.specs.Reader.{ok, short_at, repeat}
use Rattle.bsii_format.specs.Numbers.{number}
use Rattle.bsii_format.proofs.Positions.{numbers_at_law, numbers_short}
use Rattle.bsii_string.specs.Answers.{end_of}
use Rattle.std.specs.Prelude.{Ok}
use Rattle.bsii_string.proofs.Ends.{answer}

-- as many as fit are no longer than what is left
pub fitting : (n w l : ℕ) → n ≤ l / w → n * w ≤ l
fitting n w l h = le_trans (mul-le-mul_right w h) (div-mul-le_self l w)

pub product_below : {n m : ℕ} → n < 2 ^ 32 → m < 2 ^ 32 → n * m < 2 ^ 64
product_below {n} {m} h k = lt_of_le_of_lt (mul-le-mul_left n (le_of_lt k)) (mul-lt-mul_of_pos_right h (omega arith))

-- what is left from the first one on that does not fit is less than it has
pub part : (w l : ℕ) → 0 < w → l - l / w * w < w
part w l p = let h : l < l / w * w + w = lt-div-mul-add p in omega arith

-- numbers that have bytes have a width
pub wide : (n w l : ℕ) → l < n * w → 0 < w
wide n w l h = pos_of_ne-zero (λ (e : w ≡ 0). let z : n * w ≡ 0 = ap (λ (k : ℕ). n * k) e ∙ mul-zero n in omega arith)

module _ (s : List ℕ) (at n w : ℕ) where
  pub row_whole : n * w ≤ length s - at → Ok (at + n * w) ≡ end_of (repeat n (number w) at (drop at s))
  unfolding end_of
  row_whole h = answer (repeat n (number w) at (drop at s)) (ok tt (at + n * w) (drop (at + n * w) s)) (numbers_at_law n w s at h)

  -- numbers of no bytes
  pub row_empty : w ≡ 0 → Ok at ≡ end_of (repeat n (number w) at (drop at s))
  row_empty e =
      let z : n * w ≡ 0 = ap (λ (k : ℕ). n * k) e ∙ mul-zero n in
      let k : at ≡ at + n * w = omega arith in
      ap Ok k ∙ row_whole (omega arith)

  -- the first number that runs out, by what was left for the row and by the width as the code has them
  pub row_short : {l m : ℕ} → l ≡ length s - at → m ≡ w → 0 < w → l / m < n
      → end_of {A = Unit {0}} (short_at (at + l / m * m) (w - (l - l / m * m))) ≡ end_of (repeat n (number w) at (drop at s))
  row_short e f p h =
      let k = (length s - at) / w in
      ap₂ (λ (l m : ℕ). end_of {A = Unit {0}} (short_at (at + l / m * m) (w - (l - l / m * m)))) e f
      ∙ answer (repeat n (number w) at (drop at s)) (short_at (at + k * w) (w - (length s - at - k * w))) (numbers_short n w s at p (rw (e, f) at h))

  -- where fewer bytes are left than all have, the count of numbers that fit needs no look
  pub row_cut : {l m : ℕ} → l ≡ length s - at → m ≡ w → l < n * w
      → end_of {A = Unit {0}} (short_at (at + l / m * m) (w - (l - l / m * m))) ≡ end_of (repeat n (number w) at (drop at s))
  row_cut e f h = let p = wide n w _ h in row_short e f p (rw f ((div-lt_iff_lt-mul p).1 h))
