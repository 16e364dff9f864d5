-- The whole numbers among the floats: when a fraction is one, and what the text of a float is by the fields of its bits.
use Rattle.std.proofs.Common.{◌≡◌, ℕ, ◌-◌, ◌*◌, ◌/◌, ◌%◌, ◌^◌, ◌<◌, ◌≤◌, Bool, true, false, cond, ◌&&◌, eqb, leb, List, sym, refl, ap, ◌∙◌, ⊎_elim, lt_of_lt_of_le, add-zero, mod-eq_of_lt, eq-zero-or-pos, mul-le-mul, eq-or-lt_of_le, div-add-mod', mul_right_comm, div-one, one-mul, arith, shl_exact, pow_pos, pow_mono, eq-eqb, ne_eqb, le-leb}
use native.Mathlib.Nat.{eq_of_mul-eq-mul_right, zero-mod, zero-div}
use lib.Ieee.{Float, nan, inf, fin, binary32, up, down, of_bits}
use lib.Ieee.Fits.{down_pos}
use lib.Ieee.Nearest.{div_same}
use lib.Ieee.Exact.{HasValue}
use borrow.Author.Tests.{lt-leb}
use Rattle.bsii_format.specs.Digits.{decimal}
use Rattle.bsii_format.specs.Floats.{bits_text, minus_if, float_text_of, float_text}
use Rattle.bsii_float.proofs.Value.{negative, field, significand, subnormal, fraction, whole, special, below_one}

-- ---- two fractions of one value

rest_same : (a c a' c' : ℕ) → 0 < c → 0 < c' → a * c' ≡ a' * c → a % c ≡ 0 → a' % c' ≡ 0
rest_same a c a' c' p p' e z =
    let q = div_same a c a' c' p p' e in
    let f : a ≡ a' / c' * c = sym (div-add-mod' a c) ∙ rw (z, q) (add-zero (a' / c' * c)) in
    let g : a' * c ≡ a' / c' * c' * c = sym e ∙ ap (λ (x : ℕ). x * c') f ∙ mul_right_comm (a' / c') c c' in
    let h : a' ≡ a' / c' * c' = eq_of_mul-eq-mul_right c p a' (a' / c' * c') g in
    omega (arith, div-add-mod' a' c')

test_same : (a c a' c' : ℕ) → 0 < c → 0 < c' → a * c' ≡ a' * c → eqb (a % c) 0 ≡ eqb (a' % c') 0
test_same a c a' c' p p' e =
    ⊎_elim
    (λ z. eq-eqb _ _ z ∙ sym (eq-eqb _ _ (rest_same a c a' c' p p' e z)))
    (λ n. ne_eqb (a % c) 0 (λ z. omega arith) ∙ sym (ne_eqb (a' % c') 0 (λ y. let z = rest_same a' c' a c p' p (sym e) y in omega arith)))
    (eq-zero-or-pos (a % c))

-- ---- the text of ±a / c, whose bits are b

unfoldable fraction_text : ℕ → Bool → ℕ → ℕ → List ℕ
fraction_text b s a c = cond (eqb (a % c) 0 && leb (a / c) 10_000_000) (minus_if s (decimal (a / c))) (bits_text b)

text_value : (b : ℕ) (x : Float) (s : Bool) (a c : ℕ) → 0 < c → HasValue x s a c → float_text_of b x ≡ fraction_text b s a c
unfolding float_text_of fraction_text
text_value b nan s a c p v = absurd v
text_value b (inf t) s a c p v = absurd v
text_value b (fin t m e) s a c p v =
    rw (test_same (m * up e) (down e) a c (down_pos e) p v.1, div_same (m * up e) (down e) a c (down_pos e) p v.1, v.0)

and_false : (t : Bool) → t && false ≡ false
and_false true = refl
and_false false = refl

not_whole : (b : ℕ) (s : Bool) (a c : ℕ) → (a % c ≡ 0 → ⊥) → fraction_text b s a c ≡ bits_text b
unfolding fraction_text
not_whole b s a c h = rw (ne_eqb (a % c) 0 h)

too_large : (b : ℕ) (s : Bool) (a c : ℕ) → 10_000_000 < a / c → fraction_text b s a c ≡ bits_text b
unfolding fraction_text
too_large b s a c h = rw (lt-leb (a / c) 10_000_000 h, and_false (eqb (a % c) 0))

is_whole : (b : ℕ) (s : Bool) (a c : ℕ) → a % c ≡ 0 → a / c ≤ 10_000_000 → fraction_text b s a c ≡ minus_if s (decimal (a / c))
unfolding fraction_text
is_whole b s a c z h = rw (eq-eqb (a % c) 0 z, le-leb (a / c) 10_000_000 h)

-- ---- the text by the fields

pub zero_text : (b : ℕ) → b % 0x8000_0000 ≡ 0 → float_text b ≡ minus_if (negative b) (decimal 0)
unfolding float_text
zero_text b z =
    let e : field b ≡ 0 = omega arith in
    let t : b % 0x80_0000 ≡ 0 = omega arith in
    text_value b (of_bits binary32 b) (negative b) (b % 0x80_0000) (2 ^ 149) (pow_pos 149) (subnormal b e)
    ∙ ap (λ (n : ℕ). fraction_text b (negative b) n (2 ^ 149)) t
    ∙ is_whole b (negative b) 0 (2 ^ 149) (zero-mod (2 ^ 149)) (rw (zero-div (2 ^ 149)) (omega arith))
    ∙ ap (λ (n : ℕ). minus_if (negative b) (decimal n)) (zero-div (2 ^ 149))

pub below_text : (b : ℕ) → (b % 0x8000_0000 ≡ 0 → ⊥) → field b < 127 → float_text b ≡ bits_text b
unfolding float_text
below_text b z h =
    let v = below_one b h in
    let p = v.positive z in
    let m : v.num % v.den ≡ v.num = mod-eq_of_lt v.less in
    text_value b (of_bits binary32 b) (negative b) v.num v.den (omega (arith, v.less)) v.value ∙ not_whole b (negative b) v.num v.den (λ y. omega arith)

special_text : (b : ℕ) (t s : Bool) → float_text_of b (cond t (inf s) nan) ≡ bits_text b
unfolding float_text_of
special_text b true s = refl
special_text b false s = refl

pub above_text : (b : ℕ) → 150 < field b → float_text b ≡ bits_text b
unfolding float_text
above_text b h =
    ⊎_elim
    (λ (e : field b ≡ 255). ap (float_text_of b) (special b e) ∙ special_text b (eqb (b % 0x80_0000) 0) (negative b))
    (λ (l : field b < 255).
    let k : 1 ≤ field b - 150 = omega arith in
    text_value b (of_bits binary32 b) (negative b) (significand b * 2 ^ (field b - 150)) 1 (omega arith) (whole b (omega arith) l)
    ∙ too_large b (negative b) (significand b * 2 ^ (field b - 150)) 1
    (rw (div-one (significand b * 2 ^ (field b - 150))) (lt_of_lt_of_le {m = 0x80_0000 * 2} (omega arith) (mul-le-mul {n₁ = 0x80_0000} {m₁ = 2} {n₂ = significand b} {m₂ = 2 ^ (field b - 150)} (omega arith) (pow_mono k)))))
    (eq-or-lt_of_le (let q : field b ≤ 255 = omega arith in q))

-- 2 ^ n as it is computed
pub unit_is : (n : ℕ) → n < 31 → 1 * 2 ^ n % 0x1_0000_0000 ≡ 2 ^ n
unit_is n h = shl_exact {a = 1} 1 n 32 (omega arith) (omega arith) ∙ one-mul (2 ^ n)

-- u is the significand's unit in 1
module _ (b u : ℕ) (lo : 127 ≤ field b) (hi : field b ≤ 150) (e : u ≡ 2 ^ (150 - field b)) where
  fraction_text_law : float_text b ≡ fraction_text b (negative b) (significand b) u
  unfolding float_text
  fraction_text_law =
      text_value b (of_bits binary32 b) (negative b) (significand b) (2 ^ (150 - field b)) (pow_pos (150 - field b)) (fraction b (omega arith) hi)
      ∙ ap (fraction_text b (negative b) (significand b)) (sym e)

  pub parted_text : (significand b % u ≡ 0 → ⊥) → float_text b ≡ bits_text b
  parted_text h = fraction_text_law ∙ not_whole b (negative b) (significand b) u h

  pub large_text : 10_000_000 < significand b / u → float_text b ≡ bits_text b
  large_text h = fraction_text_law ∙ too_large b (negative b) (significand b) u h

  pub whole_text : significand b % u ≡ 0 → significand b / u ≤ 10_000_000 → float_text b ≡ minus_if (negative b) (decimal (significand b / u))
  whole_text z h = fraction_text_law ∙ is_whole b (negative b) (significand b) u z h
