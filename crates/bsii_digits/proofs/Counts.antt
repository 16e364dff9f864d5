-- How many digits a number has, as the number of bounds that it reaches: each bound is the base times the one before.
use Prim.Native.Nat.{ℕ, zero, suc, ◌+◌, ◌-◌, ◌*◌, ◌/◌, ◌^◌, ◌≤◌, ◌<◌}
use mathlib.Core.Path.{◌≡◌, refl, sym, ap, ap₂, ◌∙◌}
use mathlib.Core.Logic.{⊎_elim}
use mathlib.Core.Bool.{Bool, cond}
use mathlib.Core.List.{List, [], ◌∷◌}
use native.Mathlib.Omega.{arith}
use lib.Dec.{leb}
use lib.Count.{count_leading_zeros, leading_length}
use lib.ListN.{length}
use borrow.Author.Tests.{le-leb, lt-leb, leb-true}
use Rattle.bsii_format.specs.Digits.{digits, decimal, hexadecimal}
use Rattle.bsii_digits.specs.Counts.{tens}
use Rattle.bsii_format.proofs.Lists.{lt_or_le}
use Rattle.bsii_digits.proofs.DigitLaws.{length_one, length_more, some_digit, ten, sixteen, count_one, count_two, count_more}
use Rattle.bsii_digits.proofs.Tables.{holds, holds_at}

pub reach : ℕ → ℕ → ℕ
reach bound n = cond (leb bound n) 1 0

pub reached : (b n : ℕ) → b ≤ n → reach b n ≡ 1
unfolding reach
reached b n h = simp (le-leb b n h)

pub not_reached : (b n : ℕ) → n < b → reach b n ≡ 0
unfolding reach
not_reached b n h = simp (lt-leb b n h)

abbrev pub sums : List ℕ → ℕ → ℕ
sums [] n = 0
sums (b ∷ bs) n = reach b n + sums bs n

abbrev pub times : ℕ → List ℕ → List ℕ
times base [] = []
times base (b ∷ bs) = base * b ∷ times base bs

abbrev pub bounds : ℕ → ℕ → ℕ → List ℕ
bounds base first zero = []
bounds base first (suc k) = first ∷ times base (bounds base first k)

-- what is below it reaches k bounds at most
abbrev pub top : ℕ → ℕ → ℕ → ℕ
top base first zero = first
top base first (suc k) = base * top base first k

-- what a division by a base does; `omega` knows it of a literal one
pub record Divides (base : ℕ) : Type 0 where
  pub up : (b n : ℕ) → b ≤ n / base → base * b ≤ n
  pub down : (n b : ℕ) → n < base * b → n / base < b
  pub below : (b n : ℕ) → n / base < b → n < base * b
  pub less : (n : ℕ) → n / base ≤ n
  pub smaller : (n : ℕ) → base ≤ n → n / base < n

module _ (base : ℕ) (f : Divides base) where
  scaled : (b n : ℕ) → reach (base * b) n ≡ reach b (n / base)
  scaled b n =
      ⊎_elim
      (λ l. not_reached (base * b) n (f.below b n l) ∙ sym (not_reached b (n / base) l))
      (λ l. reached (base * b) n (f.up b n l) ∙ sym (reached b (n / base) l))
      (lt_or_le (n / base) b)

  sums_scaled : (bs : List ℕ) (n : ℕ) → sums (times base bs) n ≡ sums bs (n / base)
  sums_scaled [] n = refl
  sums_scaled (b ∷ bs) n = ap₂ ◌+◌ (scaled b n) (sums_scaled bs n)

  -- What is counted is nothing below the first bound, and from there on one more than of the number divided by the base.
  module _ (first : ℕ) (count : ℕ → ℕ) (none : (n : ℕ) → n < first → count n ≡ 0) (more : (n : ℕ) → first ≤ n → count n ≡ suc (count (n / base))) where
    pub counted : (k n : ℕ) → n < top base first k → count n ≡ sums (bounds base first k) n
    counted zero n h = none n h
    counted (suc k) n h =
        let e = counted k (n / base) (f.down n (top base first k) h) in
        let s = sums_scaled (bounds base first k) n in
        let d = f.less n in
        ⊎_elim
        (λ l. omega (arith, none n l, none (n / base) (omega (arith, d)), e, not_reached first n l, s))
        (λ l. omega (arith, more n l, e, reached first n l, s))
        (lt_or_le n first)

    pub counted_most : (k n : ℕ) → n < top base first k → count n ≤ k
    counted_most zero n h = omega (arith, none n h)
    counted_most (suc k) n h =
        let e = counted_most k (n / base) (f.down n (top base first k) h) in
        ⊎_elim (λ l. omega (arith, none n l)) (λ l. omega (arith, more n l, e)) (lt_or_le n first)

  -- ---- digits behind the first

  further : ℕ → ℕ
  further n = length (digits base n) - 1

  further_none : (n : ℕ) → n < base → further n ≡ 0
  unfolding further
  further_none n h = omega (arith, length_one base f.smaller n h)

  further_more : (n : ℕ) → base ≤ n → further n ≡ suc (further (n / base))
  unfolding further
  further_more n h = omega (arith, length_more base f.smaller n h, some_digit base f.smaller (n / base))

  pub digits_most : (k n : ℕ) → n < top base base k → length (digits base n) ≤ suc k
  unfolding further
  digits_most k n h = omega (arith, counted_most base further further_none further_more k n h)

-- ---- decimal

by_ten : Divides 10
by_ten = record {
  up = λ b n l. omega arith;
  down = λ n b l. omega arith;
  below = λ b n l. omega arith;
  less = λ n. omega arith;
  smaller = ten;
}

pub at_most_twenty : (n : ℕ) → n < 2 ^ 64 → length (decimal n) ≤ 20
at_most_twenty n h = digits_most 10 by_ten 19 n (omega arith)

-- ---- decimal, by the number's bits

tens_some : (t : ℕ) → 1 ≤ tens (suc t)
unfolding tens
tens_some zero = omega arith
tens_some (suc t) = omega (arith, tens_some t)

between : (t n : ℕ) → tens t ≤ n → n < tens (suc t) → length (decimal n) ≡ suc t
unfolding tens
between zero n h l = count_one n l
between (suc zero) n h l = count_two n h (omega arith)
between (suc (suc t)) n h l = let o = tens_some t in count_more n (omega arith) ∙ ap suc (between (suc t) (n / 10) (omega arith) (omega arith))

-- for a number of m bits, which reaches half of 2^m
low : ℕ → Bool
low m = leb (2 * tens (m * 1233 / 4096 - 1)) (2 ^ m)

high : ℕ → Bool
high m = leb (2 ^ m) (tens (suc (m * 1233 / 4096)))

module _ (n : ℕ) (h : n < 2 ^ 64) where
  within : (t : ℕ) → t ≡ (64 - count_leading_zeros 64 n) * 1233 / 4096 → (tens (t - 1) ≤ n) × (n < tens (suc t))
  unfolding low high holds tens
  within t e =
      let l = leading_length 64 n h in
      let m = l.0 in
      let z : t ≡ m * 1233 / 4096 = omega (arith, l.1, e) in
      let a = leb-true (2 * tens (m * 1233 / 4096 - 1)) (2 ^ m) (holds_at low 65 refl m (omega (arith, l.1))) in
      let b = leb-true (2 ^ m) (tens (suc (m * 1233 / 4096))) (holds_at high 65 refl m (omega (arith, l.1))) in
      rw z (omega (arith, a, l.3), omega (arith, b, l.2))

  -- as many as the product says, or one more
  pub as_many : (t : ℕ) → t ≡ (64 - count_leading_zeros 64 n) * 1233 / 4096 → n < tens t → length (decimal n) ≡ t
  unfolding tens
  as_many zero e l = absurd (omega arith)
  as_many (suc t) e l = let z : suc t - 1 ≡ t = omega arith in between t n (rw z at (within (suc t) e).0) l

  pub one_more : (t : ℕ) → t ≡ (64 - count_leading_zeros 64 n) * 1233 / 4096 → tens t ≤ n → length (decimal n) ≡ suc t
  one_more t e l = between t n l (within t e).1

-- ---- hexadecimal

by_sixteen : Divides 16
by_sixteen = record {
  up = λ b n l. omega arith;
  down = λ n b l. omega arith;
  below = λ b n l. omega arith;
  less = λ n. omega arith;
  smaller = sixteen;
}

pub hex_below : (k n : ℕ) → n < top 16 16 k → length (hexadecimal n) ≤ suc k
hex_below = digits_most 16 by_sixteen
