-- The tests of a number's text.
use Prim.Native.Nat.{ℕ, zero, suc, ◌-◌, ◌*◌, ◌<◌, ◌≤◌}
use mathlib.Core.Path.{◌≡◌, refl, ap, ◌∙◌}
use mathlib.Core.Bool.{Bool, cond}
use mathlib.Core.List.{◌++◌}
use native.Mathlib.Omega.{arith}
use borrow.Author.Tests.{lt-ltb, le-ltb, eq-eqb, ne_eqb}
use lib.IntN.{pos, negsuc, ◌-ℤ◌}
use Rattle.bsii_format.specs.Ascii.{ascii}
use Rattle.bsii_format.specs.Numbers.{signed}
use Rattle.bsii_format.specs.Digits.{decimal, decimal_int}
use Rattle.bsii_format.specs.Text.{or_nil, bool_text}

pub nil_text : (largest n : ℕ) → n ≡ largest → or_nil largest n ≡ ascii "nil"
unfolding or_nil
nil_text largest n e = ap (λ (b : Bool). cond b (ascii "nil") (decimal n)) (eq-eqb n largest e)

pub decimal_text : (largest n : ℕ) → (n ≡ largest → ⊥) → or_nil largest n ≡ decimal n
unfolding or_nil
decimal_text largest n e = ap (λ (b : Bool). cond b (ascii "nil") (decimal n)) (ne_eqb n largest e)

pub false_text : (n : ℕ) → n ≡ 0 → bool_text n ≡ ascii "false"
unfolding bool_text
false_text n e = ap bool_text e

pub true_text : (n : ℕ) → (n ≡ 0 → ⊥) → bool_text n ≡ ascii "true"
unfolding bool_text
true_text zero e = absurd (e refl)
true_text (suc n) e = refl

pub positive : (half n : ℕ) → n < half → decimal_int (signed half n) ≡ decimal n
unfolding signed decimal_int
positive half n h = ap (λ (b : Bool). decimal_int (cond b (pos n) (pos n -ℤ pos (2 * half)))) (lt-ltb n half h)

below : (k n : ℕ) → n < suc k → decimal_int (pos n -ℤ pos (suc k)) ≡ ascii "-" ++ decimal (suc k - n)
unfolding decimal_int
below k n h =
    let z : suc (suc k - suc n) ≡ suc k - n = omega arith in
    ap (λ (b : Bool). decimal_int (cond b (negsuc (suc k - suc n)) (pos (n - suc k)))) (lt-ltb n (suc k) h)
    ∙ ap (λ (m : ℕ). ascii "-" ++ decimal m) z

-- a number of two's complement from the half on, with all values one more than k
pub negative : (half k n m : ℕ) → 2 * half ≡ suc k → half ≤ n → n < suc k → m ≡ suc k - n → decimal_int (signed half n) ≡ ascii "-" ++ decimal m
unfolding signed
negative half k n m e l h z =
    ap (λ (b : Bool). decimal_int (cond b (pos n) (pos n -ℤ pos (2 * half)))) (le-ltb n half l)
    ∙ ap (λ (x : ℕ). decimal_int (pos n -ℤ pos x)) e
    ∙ below k n h
    ∙ ap (λ (x : ℕ). ascii "-" ++ decimal x) (let y : suc k - n ≡ m = omega arith in y)
