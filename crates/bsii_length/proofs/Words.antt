-- No accepted word has more than twelve characters: thirteen digits that are all 1 are 9,310,757,851,967,833,171, which is above 2^63.
use mathlib.Core.Path.{◌≡◌, refl, ap}
use Prim.Native.Nat.{ℕ, zero, suc, ◌+◌, ◌-◌, ◌*◌, ◌/◌, ◌%◌, ◌≤◌, ◌<◌}
use native.Mathlib.Omega.{arith}
use mathlib.Core.Option.{Option, none, some, get_or}
use mathlib.Core.List.{List, []}
use mathlib.Core.Bool.{Bool, true, false}
use mathlib.Core.Logic.{◌⊎◌, inl, inr, ⊎_elim}
use lib.ListN.{length}
use lib.Dec.{ltb}
use borrow.Author.Tests.{ltb-true, ltb-false}
use Rattle.bsii_format.specs.Strings.{digit_then, base38_from, base38, characters}
use Rattle.bsii_length.specs.Bounds.{word_bound}

-- the number of n digits to base 38 that are all 1
unfoldable ones : ℕ → ℕ
ones zero = 0
ones (suc k) = 1 + 38 * ones k

ones_grow : (k j : ℕ) → ones k ≤ ones (k + j)
unfolding ones
ones_grow zero j = omega arith
ones_grow (suc k) j =
    let z : suc k + j ≡ suc (k + j) = omega arith in
    rw z (omega (arith, ones_grow k j))

some≢none : {P : Type 0} {l : List ℕ} → ◌≡◌ {A = Option (List ℕ)} none (some l) → P
some≢none e = let z : ◌≡◌ {A = ℕ} 0 1 = cc in let f : ⊥ = omega arith in absurd f

some_is : {a b : List ℕ} → ◌≡◌ {A = Option (List ℕ)} (some a) (some b) → a ≡ b
some_is e = cc

-- one digit that is not 0, in front of what the others are at least
digit : (m d : ℕ) → m % 38 ≡ d → (o : Option (List ℕ)) → ((k : List ℕ) → o ≡ some k → ones (length k) ≤ m / 38) → (l : List ℕ) → digit_then d o ≡ some l → ones (length l) ≤ m
unfolding digit_then ones
digit m zero z o h l e = some≢none e
digit m (suc d) z none h l e = some≢none e
digit m (suc d) z (some k) h l e = omega (arith, ap (λ (l : List ℕ). ones (length l)) (some_is e), h k refl)

-- a number is at least its digits' ones
at_least : (fuel n : ℕ) (l : List ℕ) → base38_from fuel n ≡ some l → ones (length l) ≤ n
unfolding base38_from ones
at_least zero n l e = omega (arith, ap (λ (l : List ℕ). ones (length l)) (some_is e))
at_least (suc fuel) zero l e = omega (arith, ap (λ (l : List ℕ). ones (length l)) (some_is e))
at_least (suc fuel) (suc n) l e = digit (suc n) (suc n % 38) refl (base38_from fuel (suc n / 38)) (at_least fuel (suc n / 38)) l e

cases : (b : Bool) → (b ≡ true) ⊎ (b ≡ false)
cases true = inl refl
cases false = inr refl

lt_or_le : (a b : ℕ) → (a < b) ⊎ (b ≤ a)
lt_or_le a b = ⊎_elim (λ e. inl (ltb-true a b e)) (λ e. inr (ltb-false a b e)) (cases (ltb a b))

few : (k : ℕ) → ones k < 0x8000_0000_0000_0000 → k ≤ word_bound
unfolding ones
few k h = ⊎_elim (λ l. omega arith) (λ l. let z : 13 + (k - 13) ≡ k = omega arith in absurd (omega (arith, ones_grow 13 (k - 13), ap ones z))) (lt_or_le k 13)

spells : (o : Option (List ℕ)) (n : ℕ) → ((l : List ℕ) → o ≡ some l → ones (length l) ≤ n) → n < 0x8000_0000_0000_0000 → length (get_or o []) ≤ word_bound
spells none n h k = omega arith
spells (some l) n h k = few (length l) (omega (arith, h l refl))

pub twelve : (n : ℕ) → n < 0x8000_0000_0000_0000 → length (characters n) ≤ word_bound
unfolding characters base38
twelve n h = spells (base38_from n n) n (at_least n n) h
