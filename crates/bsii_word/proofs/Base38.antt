-- Digits to base 38: the definition's fuel never shows, so a loop by division answers it.
use mathlib.Core.Path.{◌≡◌, refl, sym, ap, ◌∙◌}
use Prim.Native.Nat.{ℕ, zero, suc, ◌+◌, ◌/◌, ◌%◌, ◌≤◌, ◌<◌}
use native.Mathlib.Nat.{zero-add, add_assoc}
use native.Mathlib.Numerals.{one-add}
use native.Mathlib.Omega.{arith}
use mathlib.Core.Bool.{true, false, true≢false}
use mathlib.Core.Logic.{⊎_elim}
use lib.Dec.{eqb}
use lib.ListN.{length}
use borrow.Author.Tests.{eqb-true, eqb-false}
use mathlib.Core.Option.{Option, none, some}
use mathlib.Core.List.{List}
use Rattle.bsii_format.specs.Strings.{digit_then, base38_from, base38, is_some, spelled}
use Rattle.bsii_format.proofs.Lists.{bool_cases}
use Rattle.bsii_base38.specs.Pairs.{low_zero, has_zero}
use Rattle.bsii_base38.proofs.Rule.{lower_digit, upper_digit}
use Rattle.bsii_word.specs.Words.{spelled_as}
use Rattle.std.specs.Prelude.{Some, None, Option as Outcome}

-- more fuel than the rest changes nothing
pub fuel : (f g n : ℕ) → n ≤ f → n ≤ g → base38_from f n ≡ base38_from g n
unfolding base38_from
fuel zero zero n h k = refl
fuel zero (suc g) zero h k = refl
fuel zero (suc g) (suc n) h k = absurd (omega arith)
fuel (suc f) zero zero h k = refl
fuel (suc f) zero (suc n) h k = absurd (omega arith)
fuel (suc f) (suc g) zero h k = refl
fuel (suc f) (suc g) (suc n) h k = ap (digit_then (suc n % 38)) (fuel f g (suc n / 38) (omega arith) (omega arith))

pub base38_more : (n : ℕ) → 0 < n → base38 n ≡ digit_then (n % 38) (base38 (n / 38))
unfolding base38 base38_from
base38_more zero h = absurd (omega arith)
base38_more (suc n) h = ap (digit_then (suc n % 38)) (fuel n (suc n / 38) (suc n / 38) (omega arith) (omega arith))

-- ---- a word's length, digit by digit

-- with k characters in front
abbrev pub behind : ℕ → Outcome ℕ → Outcome ℕ
behind k (Some n) = Some (k + n)
behind k None = None

pub behind_none : (a : Outcome ℕ) → behind 0 a ≡ a
behind_none (Some n) = ap Some (zero-add n)
behind_none None = refl

pub behind_two : (j k : ℕ) (a : Outcome ℕ) → behind j (behind k a) ≡ behind (j + k) a
behind_two j k (Some n) = ap Some (sym (add_assoc j k n))
behind_two j k None = refl

abbrev pub length_of : ℕ → Outcome ℕ
length_of n = spelled_as (base38 n)

pub length_none : (n : ℕ) → n ≤ 0 → length_of n ≡ Some 0
unfolding base38 base38_from
length_none zero h = refl
length_none (suc n) h = absurd (omega arith)

digit_more : (d : ℕ) (o : Option (List ℕ)) → (d ≡ 0 → ⊥) → spelled_as (digit_then d o) ≡ behind 1 (spelled_as o)
unfolding digit_then
digit_more zero o h = absurd (h refl)
digit_more (suc d) none h = refl
digit_more (suc d) (some l) h = ap Some (sym (one-add (length l)))

length_more : (n : ℕ) → 0 < n → (n % 38 ≡ 0 → ⊥) → length_of n ≡ behind 1 (length_of (n / 38))
length_more n h k = ap spelled_as (base38_more n h) ∙ digit_more (n % 38) (base38 (n / 38)) k

length_not : (n : ℕ) → 0 < n → n % 38 ≡ 0 → length_of n ≡ None
unfolding digit_then
length_not n h k = ap spelled_as (base38_more n h) ∙ ap (λ (d : ℕ). spelled_as (digit_then d (base38 (n / 38)))) k

-- ---- by what the table says of a pair of digits

-- the last digit, or the lower one of the last two
module _ (n : ℕ) (h : 0 < n) where
  pub last_not : low_zero n ≡ true → length_of n ≡ None
  unfolding low_zero
  last_not t = length_not n h (eqb-true (n % 38) 0 t)

  pub last_one : low_zero n ≡ false → n < 38 → length_of n ≡ Some 1
  unfolding low_zero
  last_one t l = length_more n h (eqb-false (n % 38) 0 t) ∙ ap (behind 1) (length_none (n / 38) (omega arith))

  pub last_two : low_zero n ≡ false → 38 ≤ n → n < 1444 → length_of n ≡ Some 2
  unfolding low_zero
  last_two t k l =
      length_more n h (eqb-false (n % 38) 0 t)
      ∙ ap (behind 1) (length_more (n / 38) (omega arith) (omega arith) ∙ ap (behind 1) (length_none (n / 38 / 38) (omega arith)))

-- two digits with more above them
module _ (n r : ℕ) (l : 1443 < n) (e : r ≡ n % 1444) where
  pub two_not : has_zero r ≡ true → length_of n ≡ None
  unfolding has_zero low_zero
  two_not t =
      ⊎_elim
      (λ d. length_not n (omega arith) (sym (lower_digit r n e) ∙ eqb-true (r % 38) 0 d))
      (λ d. let u : eqb (r / 38) 0 ≡ true = rw d at t in
      length_more n (omega arith) (λ z. eqb-false (r % 38) 0 d (lower_digit r n e ∙ z))
      ∙ ap (behind 1) (length_not (n / 38) (omega arith) (sym (upper_digit r n e) ∙ eqb-true (r / 38) 0 u)))
      (bool_cases (eqb (r % 38) 0))

  pub two_more : has_zero r ≡ false → length_of n ≡ behind 2 (length_of (n / 1444))
  unfolding has_zero low_zero
  two_more t =
      ⊎_elim
      (λ d. absurd (true≢false (rw d at t)))
      (λ d. let u : eqb (r / 38) 0 ≡ false = rw d at t in
      length_more n (omega arith) (λ z. eqb-false (r % 38) 0 d (lower_digit r n e ∙ z))
      ∙ ap (behind 1) (length_more (n / 38) (omega arith) (λ z. eqb-false (r / 38) 0 u (upper_digit r n e ∙ z)) ∙ ap (λ (m : ℕ). behind 1 (length_of m)) (omega arith))
      ∙ behind_two 1 1 (length_of (n / 1444)))
      (bool_cases (eqb (r % 38) 0))

-- a word is accepted if it has a length
pub accepted : (n : ℕ) {k : ℕ} → length_of n ≡ Some k → spelled n ≡ true
unfolding spelled is_some
accepted n = go (base38 n)
  where
    go : (o : Option (List ℕ)) {k : ℕ} → spelled_as o ≡ Some k → is_some o ≡ true
    go none e = let z : ◌≡◌ {A = ℕ} 0 1 = cc in absurd (omega arith)
    go (some l) e = refl

pub not_accepted : (n : ℕ) → length_of n ≡ None → spelled n ≡ false
unfolding spelled is_some
not_accepted n = go (base38 n)
  where
    go : (o : Option (List ℕ)) → spelled_as o ≡ None → is_some o ≡ false
    go none e = refl
    go (some l) e = let z : ◌≡◌ {A = ℕ} 0 1 = cc in absurd (omega arith)
