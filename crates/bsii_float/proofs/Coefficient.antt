-- A float cut to an i32, from the fields of its bits, and its two's complement.
use Rattle.std.proofs.Common.{◌≡◌, ℕ, zero, suc, ◌+◌, ◌-◌, ◌*◌, ◌/◌, ◌%◌, ◌^◌, ◌<◌, ◌≤◌, min, Bool, true, false, cond, eqb, ltb, ℤ, pos, negsuc, neg_ℤ, sym, refl, ap, ◌∙◌, mul-le-mul, div-le_self, div-one, arith, pow_pos, pow_mono, ltb-false, ltb-true, eq-eqb, le-leb}
use native.Mathlib.Nat.{div-eq_of_lt}
use lib.Ieee.{Float, nan, inf, fin, binary32, up, down, odd, of_fields, of_bits, to_signed}
use lib.Ieee.Fits.{down_pos}
use lib.Ieee.Nearest.{div_same}
use lib.Ieee.Exact.{HasValue}
use borrow.Author.Tests.{lt-leb}
use Rattle.bsii_format.specs.Floats.{floor_mod, floor_div, coefficient}
use Rattle.bsii_float.specs.Cut.{cut_size}
use Rattle.bsii_float.proofs.Nan.{nan_of}
use Rattle.bsii_float.proofs.Value.{negative, field, significand, fraction, whole, special, below_one}

-- ---- the size

size_value : (x : Float) (s : Bool) (a c : ℕ) → 0 < c → HasValue x s a c → cut_size x ≡ min (a / c) 0x8000_0000
unfolding cut_size
size_value nan s a c p v = absurd v
size_value (inf t) s a c p v = absurd v
size_value (fin t m e) s a c p v = ap (λ (n : ℕ). min n 0x8000_0000) (div_same (m * up e) (down e) a c (down_pos e) p v.1)

pub size_below : (b : ℕ) → field b < 127 → cut_size (of_bits binary32 b) ≡ 0
size_below b h =
    let v = below_one b h in
    size_value (of_bits binary32 b) (negative b) v.num v.den (omega (arith, v.less)) v.value ∙ ap (λ (n : ℕ). min n 0x8000_0000) (div-eq_of_lt v.less)

pub size_fraction : (b u : ℕ) → 127 ≤ field b → field b < 150 → u ≡ 2 ^ (150 - field b) → cut_size (of_bits binary32 b) ≡ significand b / u
size_fraction b u l h e =
    let q : significand b / 2 ^ (150 - field b) ≤ significand b = div-le_self (significand b) (2 ^ (150 - field b)) in
    let z : min (significand b / 2 ^ (150 - field b)) 0x8000_0000 ≡ significand b / 2 ^ (150 - field b) = omega arith in
    size_value (of_bits binary32 b) (negative b) (significand b) (2 ^ (150 - field b)) (pow_pos (150 - field b)) (fraction b (omega arith) (omega arith))
    ∙ z ∙ ap (λ (n : ℕ). significand b / n) (sym e)

size_whole : (b : ℕ) → 150 ≤ field b → field b < 255 → cut_size (of_bits binary32 b) ≡ min (significand b * 2 ^ (field b - 150)) 0x8000_0000
size_whole b l h =
    size_value (of_bits binary32 b) (negative b) (significand b * 2 ^ (field b - 150)) 1 (omega arith) (whole b l h)
    ∙ ap (λ (n : ℕ). min n 0x8000_0000) (div-one (significand b * 2 ^ (field b - 150)))

pub product_fits : (b u : ℕ) → field b < 158 → u ≡ 2 ^ (field b - 150) → significand b * u < 0x8000_0000
product_fits b u h e =
    let k : field b - 150 ≤ 7 = omega arith in
    let m : significand b * 2 ^ (field b - 150) ≤ 0xff_ffff * 128 = mul-le-mul {n₁ = significand b} {m₁ = 2 ^ (field b - 150)} {n₂ = 0xff_ffff} {m₂ = 128} (omega arith) (pow_mono k) in
    rw e (omega arith)

pub size_product : (b u : ℕ) → 150 ≤ field b → field b < 158 → u ≡ 2 ^ (field b - 150) → cut_size (of_bits binary32 b) ≡ significand b * u
size_product b u l h e =
    let p = product_fits b (2 ^ (field b - 150)) h refl in
    let z : min (significand b * 2 ^ (field b - 150)) 0x8000_0000 ≡ significand b * 2 ^ (field b - 150) = omega arith in
    size_whole b l (omega arith) ∙ z ∙ ap (λ (n : ℕ). significand b * n) (sym e)

pub size_nan : (b : ℕ) → 0x7f80_0000 < b % 0x8000_0000 → cut_size (of_bits binary32 b) ≡ 0
unfolding cut_size
size_nan b h = ap cut_size (nan_of b h)

pub size_above : (b : ℕ) → 158 ≤ field b → b % 0x8000_0000 ≤ 0x7f80_0000 → cut_size (of_bits binary32 b) ≡ 0x8000_0000
unfolding cut_size
size_above b l h = go (ltb (field b) 255) refl
  where
    go : (t : Bool) → ltb (field b) 255 ≡ t → cut_size (of_bits binary32 b) ≡ 0x8000_0000
    go true e =
        let k : 8 ≤ field b - 150 = omega arith in
        let m : 0x80_0000 * 256 ≤ significand b * 2 ^ (field b - 150) = mul-le-mul {n₁ = 0x80_0000} {m₁ = 256} {n₂ = significand b} {m₂ = 2 ^ (field b - 150)} (omega arith) (pow_mono k) in
        let z : min (significand b * 2 ^ (field b - 150)) 0x8000_0000 ≡ 0x8000_0000 = omega arith in
        size_whole b (omega arith) (ltb-true (field b) 255 e) ∙ z
    go false e =
        let f = ltb-false (field b) 255 e in
        let x : field b ≡ 255 = omega arith in
        let d : b % 0x80_0000 ≡ 0 = omega arith in
        ap cut_size (special b x ∙ ap (λ (t : Bool). cond t (inf (negative b)) nan) (eq-eqb (b % 0x80_0000) 0 d))

size_bound : (x : Float) → cut_size x ≤ 0x8000_0000
unfolding cut_size
size_bound nan = omega arith
size_bound (inf s) = omega arith
size_bound (fin s m e) = omega arith

-- ---- the sign

abbrev Signed : Bool → Float → Type 0
Signed s nan = Unit {0}
Signed s (inf t) = t ≡ s
Signed s (fin t m e) = t ≡ s

signed_odd : (d : ℕ) (s : Bool) (q k l : ℕ) → Signed s (odd d s q k l)
unfolding odd
signed_odd d s zero k l = refl
signed_odd d s (suc q) k l = refl

signed_cond : (t s : Bool) (x y : Float) → Signed s x → Signed s y → Signed s (cond t x y)
signed_cond true s x y p q = p
signed_cond false s x y p q = q

signed_fields : (s : Bool) (e t : ℕ) → Signed s (of_fields binary32 s e t)
unfolding of_fields
signed_fields s zero t = signed_odd 24 s t 0 149
signed_fields s (suc e) t = signed_cond (eqb (suc e) 255) s _ _ (signed_cond (eqb t 0) s (inf s) nan refl tt) (signed_odd 24 s (0x80_0000 + t) e 149)

-- ---- the i32

abbrev held : Bool → ℕ → ℤ
held s n = cond s (neg_ℤ (pos n)) (pos (min n 0x7fff_ffff))

held_value : (s : Bool) (x : Float) → Signed s x → to_signed 31 x ≡ held s (cut_size x)
unfolding to_signed cut_size
held_value true nan e = refl
held_value false nan e = refl
held_value s (inf t) e = rw e
held_value s (fin t m d) e =
    let z : min (m * up d / down d) 0x7fff_ffff ≡ min (min (m * up d / down d) 0x8000_0000) 0x7fff_ffff = omega arith in
    rw (e, z)

held_bits : (b n : ℕ) → n ≡ cut_size (of_bits binary32 b) → coefficient b ≡ held (negative b) n
unfolding coefficient of_bits
held_bits b n e = held_value (negative b) (of_bits binary32 b) (signed_fields (negative b) (field b) (b % 0x80_0000)) ∙ ap (held (negative b)) (sym e)

-- ---- its two's complement

module _ (b n : ℕ) (e : n ≡ cut_size (of_bits binary32 b)) where
  pub word_above : b < 0x8000_0000 → floor_mod (coefficient b) 0x1_0000_0000 ≡ min n 0x7fff_ffff
  unfolding floor_mod
  word_above h = rw (held_bits b n e, lt-leb 0x8000_0000 b h) (omega arith)

  pub word_below : 0x8000_0000 ≤ b → floor_mod (coefficient b) 0x1_0000_0000 ≡ (0x1_0000_0000 - n) % 0x1_0000_0000
  unfolding floor_mod
  word_below h = rw (held_bits b n e, le-leb 0x8000_0000 b h) (go n (omega (arith, size_bound (of_bits binary32 b))))
    where
      go : (n : ℕ) → n ≤ 0x8000_0000 → floor_mod (neg_ℤ (pos n)) 0x1_0000_0000 ≡ (0x1_0000_0000 - n) % 0x1_0000_0000
      go zero l = refl
      go (suc k) l = omega arith

-- ---- bits 0 to 11 and 12 to 23

pub low_part : (c : ℤ) → floor_mod c 0x1_0000_0000 % 4096 ≡ floor_mod c 4096
unfolding floor_mod
low_part (pos n) = omega arith
low_part (negsuc n) = omega arith

pub high_part : (c : ℤ) → floor_mod c 0x1_0000_0000 / 4096 % 4096 ≡ floor_mod (floor_div c 4096) 4096
unfolding floor_mod floor_div
high_part (pos n) = omega arith
high_part (negsuc n) = omega arith
