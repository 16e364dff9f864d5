-- What a float's value is as a fraction, from the fields of its bits.
use Rattle.std.proofs.Common.{◌≡◌, ℕ, suc, ◌+◌, ◌-◌, ◌*◌, ◌/◌, ◌%◌, ◌^◌, ◌<◌, ◌≤◌, Bool, true, false, cond, eqb, leb, sym, refl, ap, ◌∙◌, subst, lt_of_lt_of_le, mul_assoc, mul-one, mul_right_comm, arith, pow_pos, pow_mono, pow-add, ne_eqb, eqb-true}
use native.Mathlib.Nat.{eq_of_mul-eq-mul_right}
use lib.Ieee.{Float, nan, inf, fin, binary32, up, down, of_fields, of_bits}
use lib.Ieee.Exact.{HasValue, odd_sign}
use borrow.Author.Tests.{eqb-false}

abbrev pub negative : ℕ → Bool
negative b = leb 0x8000_0000 b

-- the exponent's field
abbrev pub field : ℕ → ℕ
field b = b % 0x8000_0000 / 0x80_0000

-- of a float that is not subnormal
abbrev pub significand : ℕ → ℕ
significand b = 0x80_0000 + b % 0x80_0000

-- from one fraction to another of the same size
rescaled : (x : Float) (s : Bool) (a c a' c' : ℕ) → 0 < c → a' * c ≡ a * c' → HasValue x s a c → HasValue x s a' c'
rescaled nan s a c a' c' p h v = v
rescaled (inf t) s a c a' c' p h v = v
rescaled (fin t m e) s a c a' c' p h v = (
  v.0,
  eq_of_mul-eq-mul_right c p (m * up e * c') (a' * down e)
      (mul_right_comm (m * up e) c' c ∙ ap (λ (x : ℕ). x * c') v.1 ∙ mul_right_comm a (down e) c' ∙ ap (λ (x : ℕ). x * down e) (sym h) ∙ mul_right_comm a' c (down e)),
)

pub subnormal : (b : ℕ) → field b ≡ 0 → HasValue (of_bits binary32 b) (negative b) (b % 0x80_0000) (2 ^ 149)
unfolding of_bits of_fields
subnormal b e = subst (λ (n : ℕ). HasValue (of_bits binary32 b) (negative b) n (2 ^ 149)) (mul-one (b % 0x80_0000)) (rw e (odd_sign 24 (negative b) (b % 0x80_0000) 0 149))

normal : (b y : ℕ) → field b ≡ suc y → y < 254 → HasValue (of_bits binary32 b) (negative b) (significand b * 2 ^ y) (2 ^ 149)
unfolding of_bits of_fields
normal b y e h = rw (e, ne_eqb (suc y) 255 (λ (z : suc y ≡ 255). omega arith)) (odd_sign 24 (negative b) (significand b) y 149)

-- below 2 ^ 24
pub fraction : (b : ℕ) → 1 ≤ field b → field b ≤ 150 → HasValue (of_bits binary32 b) (negative b) (significand b) (2 ^ (150 - field b))
fraction b l h =
    let e : field b ≡ suc (field b - 1) = omega arith in
    let z : field b - 1 + (150 - field b) ≡ 149 = omega arith in
    rescaled (of_bits binary32 b) (negative b) (significand b * 2 ^ (field b - 1)) (2 ^ 149) (significand b) (2 ^ (150 - field b)) (pow_pos 149)
    (sym (mul_assoc (significand b) (2 ^ (field b - 1)) (2 ^ (150 - field b)) ∙ ap (λ (x : ℕ). significand b * x) (sym (pow-add 2 (field b - 1) (150 - field b)) ∙ ap (λ (x : ℕ). 2 ^ x) z)))
    (normal b (field b - 1) e (omega arith))

-- from 2 ^ 23 on
pub whole : (b : ℕ) → 150 ≤ field b → field b < 255 → HasValue (of_bits binary32 b) (negative b) (significand b * 2 ^ (field b - 150)) 1
whole b l h =
    let e : field b ≡ suc (field b - 1) = omega arith in
    let z : field b - 150 + 149 ≡ field b - 1 = omega arith in
    rescaled (of_bits binary32 b) (negative b) (significand b * 2 ^ (field b - 1)) (2 ^ 149) (significand b * 2 ^ (field b - 150)) 1 (pow_pos 149)
    (mul_assoc (significand b) (2 ^ (field b - 150)) (2 ^ 149)
    ∙ ap (λ (x : ℕ). significand b * x) (sym (pow-add 2 (field b - 150) 149) ∙ ap (λ (x : ℕ). 2 ^ x) z)
    ∙ sym (mul-one (significand b * 2 ^ (field b - 1))))
    (normal b (field b - 1) e (omega arith))

-- infinities and NaN
pub special : (b : ℕ) → field b ≡ 255 → of_bits binary32 b ≡ cond (eqb (b % 0x80_0000) 0) (inf (negative b)) nan
unfolding of_bits of_fields
special b e = rw e

-- below 1: a fraction whose numerator is the smaller
pub record Below (b : ℕ) : Type 0 where
  pub num : ℕ
  pub den : ℕ
  pub less : num < den
  pub positive : (b % 0x8000_0000 ≡ 0 → ⊥) → 0 < num
  pub value : HasValue (of_bits binary32 b) (negative b) num den

pub below_one : (b : ℕ) → field b < 127 → Below b
below_one b h = go (eqb (field b) 0) refl
  where
    go : (t : Bool) → eqb (field b) 0 ≡ t → Below b
    go true e =
        let z = eqb-true (field b) 0 e in
        record {
          num = b % 0x80_0000;
          den = 2 ^ 149;
          less = lt_of_lt_of_le {m = 2 ^ 23} (omega arith) (pow_mono {i = 23} {j = 149} (omega arith));
          positive = λ n. omega arith;
          value = subnormal b z;
        }
    go false e =
        let n = eqb-false (field b) 0 e in
        let p : 0 < field b = omega arith in
        let k : 24 ≤ 150 - field b = omega arith in
        record {
          num = significand b;
          den = 2 ^ (150 - field b);
          less = lt_of_lt_of_le {m = 2 ^ 24} (omega arith) (pow_mono k);
          positive = λ n. omega arith;
          value = fraction b p (omega arith);
        }
