-- How many digits a number below a power of two has, in each way of the text.
use mathlib.Core.Path.{◌≡◌, refl, sym, subst}
use Prim.Native.Nat.{ℕ, zero, suc, ◌+◌, ◌-◌, ◌*◌, ◌/◌, ◌%◌, ◌^◌, ◌≤◌, ◌<◌}
use native.Mathlib.Nat.{div-lt_iff_lt-mul, div-le_self, mul-le-mul_left}
use native.Mathlib.Omega.{arith}
use mathlib.Core.Bool.{Bool, true, false, not, cond}
use mathlib.Core.Option.{Option, none, some, get_or}
use mathlib.Core.List.{List, []}
use lib.ListN.{length, length-append}
use lib.Dec.{T, ltb, nltb→le}
use lib.IntN.{pos, sub_ℕ, ◌-ℤ◌}
use Rattle.bsii_format.specs.Digits.{digits_from, digits, hex_padded, decimal_int}
use Rattle.bsii_format.specs.Numbers.{signed}
use Rattle.bsii_format.specs.Strings.{digit_then, base38_from, base38, characters}
use Rattle.bsii_format.specs.Text.{groups}

-- what is bounded on both ways of a test is bounded
pub either : {A : Type 0} (f : A → ℕ) {k : ℕ} (b : Bool) {x y : A} → f x ≤ k → f y ≤ k → f (cond b x y) ≤ k
either f true h l = h
either f false h l = l

shrinks : (base n k : ℕ) → 2 ≤ base → n < 2 ^ suc k → n / base < 2 ^ k
shrinks base n k h l =
    let p : 0 < base = omega arith in
    (div-lt_iff_lt-mul p).1 (omega (arith, mul-le-mul_left (2 ^ k) h))

digits_from_length : (base fuel k n : ℕ) (b : Bool) → 2 ≤ base → ltb n base ≡ b → n < 2 ^ k → length (digits_from base fuel b n) ≤ suc k
unfolding digits_from
digits_from_length base zero k n b h e l = omega arith
digits_from_length base (suc fuel) k n true h e l = omega arith
digits_from_length base (suc fuel) zero n false h e l = absurd (omega (arith, nltb→le n base (subst (λ z. T (not z)) (sym e) tt)))
digits_from_length base (suc fuel) (suc k) n false h e l =
    rw length-append (omega (arith, digits_from_length base fuel k (n / base) (ltb (n / base) base) h refl (shrinks base n k h l)))

pub digits_length : (base k n : ℕ) → 2 ≤ base → n < 2 ^ k → length (digits base n) ≤ suc k
unfolding digits
digits_length base k n h l = digits_from_length base (suc n) k n (ltb n base) h refl l

pub hex_padded_length : (w n : ℕ) → length (hex_padded w n) ≡ w
unfolding hex_padded
hex_padded_length zero n = refl
hex_padded_length (suc w) n = rw length-append (omega (arith, hex_padded_length w (n / 16)))

-- ---- signed numbers

subℕ_length : (n m : ℕ) → n < 2 ^ 64 → m ≤ 2 ^ 64 → length (decimal_int (sub_ℕ n m)) ≤ 68
unfolding decimal_int
subℕ_length n m h l =
    either (λ z. length (decimal_int z)) (ltb n m)
    (omega (arith, digits_length 10 65 (suc (m - suc n)) (omega arith) (omega arith)))
    (omega (arith, digits_length 10 65 (n - m) (omega arith) (omega arith)))

minus_length : (n m : ℕ) → n < 2 ^ 64 → m ≤ 2 ^ 64 → length (decimal_int (pos n -ℤ pos m)) ≤ 68
unfolding decimal_int
minus_length n zero h l = omega (arith, digits_length 10 65 (n + 0) (omega arith) (omega arith))
minus_length n (suc m) h l = subℕ_length n (suc m) h l

pub signed_length : (half n : ℕ) → half ≤ 2 ^ 63 → n < 2 ^ 64 → length (decimal_int (signed half n)) ≤ 68
unfolding signed decimal_int
signed_length half n h l =
    either (λ z. length (decimal_int z)) (ltb n half) (omega (arith, digits_length 10 64 n (omega arith) l)) (minus_length n (2 * half) l (omega arith))

-- ---- words and the groups of a nameless id

digit_then_length : (d : ℕ) (o : Option (List ℕ)) → length (get_or (digit_then d o) []) ≤ suc (length (get_or o []))
unfolding digit_then
digit_then_length zero o = omega arith
digit_then_length (suc d) none = omega arith
digit_then_length (suc d) (some l) = omega arith

base38_from_length : (fuel n k : ℕ) → n < 2 ^ k → length (get_or (base38_from fuel n) []) ≤ k
unfolding base38_from
base38_from_length zero n k h = omega arith
base38_from_length (suc fuel) zero k h = omega arith
base38_from_length (suc fuel) (suc n) zero h = absurd (omega arith)
base38_from_length (suc fuel) (suc n) (suc k) h =
    omega (arith, digit_then_length (suc n % 38) (base38_from fuel (suc n / 38)), base38_from_length fuel (suc n / 38) k (shrinks 38 (suc n) k (omega arith) h))

pub characters_length : (k n : ℕ) → n < 2 ^ k → length (characters n) ≤ k
unfolding characters base38
characters_length k n h = base38_from_length n n k h

pub groups_length : (k n : ℕ) → n < 2 ^ 64 → length (groups k n) ≤ 66 + 5 * k
unfolding groups
groups_length zero n h = omega (arith, digits_length 16 64 n (omega arith) h)
groups_length (suc k) n h =
    either length (ltb n 0x1_0000) (omega (arith, digits_length 16 64 n (omega arith) h))
    (simp (length-append, hex_padded_length) (omega (arith, groups_length k (n / 0x1_0000) (omega (arith, div-le_self n 0x1_0000)))))
