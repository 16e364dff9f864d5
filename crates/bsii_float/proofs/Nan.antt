-- Which bits are a NaN's, by one comparison.
use Rattle.std.proofs.Common.{◌≡◌, ℕ, zero, suc, ◌+◌, ◌*◌, ◌/◌, ◌%◌, ◌^◌, ◌<◌, ◌≤◌, Bool, true, false, cond, eqb, bit_or, sym, refl, ap, ◌∙◌, arith, le-ltb, lt-ltb, div-add-mod'}
use Rattle.std.specs.Int.Bits.{or_zero_r}
use Rattle.std.proofs.lemmas.Nat.{or_block}
use lib.Ieee.{Float, nan, inf, fin, binary32, of_bits, is_nan, nan_bits}
use lib.Ieee.Bits.{nan_bits_is, nan_bits_above}
use Rattle.bsii_format.specs.Floats.{quieted}

pub differ : {A : Type 0} → false ≡ true → A
differ e = let z : ◌≡◌ {A = ℕ} 0 1 = cc in absurd (omega arith)

is_nan_law : (x : Float) → is_nan x ≡ true → x ≡ nan
unfolding is_nan
is_nan_law nan e = refl
is_nan_law (inf s) e = differ e
is_nan_law (fin s m d) e = differ e

pub nan_of : (b : ℕ) → 0x7f80_0000 < b % 0x8000_0000 → of_bits binary32 b ≡ nan
nan_of b h = is_nan_law (of_bits binary32 b) (sym (nan_bits_is binary32 b) ∙ nan_bits_above binary32 b ∙ lt-ltb 0x7f80_0000 (b % 0x8000_0000) h)

pub nan_no : (b : ℕ) → b % 0x8000_0000 ≤ 0x7f80_0000 → nan_bits binary32 b ≡ false
nan_no b h = nan_bits_above binary32 b ∙ le-ltb 0x7f80_0000 (b % 0x8000_0000) h

-- ---- bit 22

odd_rest : (q r : ℕ) → r < 2 → bit_or (q * 2 ^ 1 + r) (0 * 2 ^ 1 + 1) ≡ cond (eqb r 0) (q * 2 + r + 1) (q * 2 + r)
odd_rest q zero h = or_block 1 q 0 0 1 (omega arith) (omega arith) ∙ rw or_zero_r (omega arith)
odd_rest q (suc zero) h = or_block 1 q 0 1 1 (omega arith) (omega arith) ∙ rw or_zero_r (omega arith)
odd_rest q (suc (suc r)) h = absurd (omega arith)

odd_bit : (q : ℕ) → bit_or q 1 ≡ cond (eqb (q % 2) 0) (q + 1) q
odd_bit q = rw (div-add-mod' q 2) at (odd_rest (q / 2) (q % 2) (omega arith))

chosen : (t : Bool) (q r b : ℕ) → q * 2 ^ 22 + r ≡ b → cond t (q + 1) q * 2 ^ 22 + r ≡ cond t (b + 0x40_0000) b
chosen true q r b e = omega (arith, e)
chosen false q r b e = e

pub quiet_bit : (b : ℕ) → bit_or b 0x40_0000 ≡ quieted b
unfolding quieted
quiet_bit b =
    let q = b / 0x40_0000 in
    let r = b % 0x40_0000 in
    let whole = div-add-mod' b 0x40_0000 in
    ap (λ (n : ℕ). bit_or n 0x40_0000) (sym whole)
    ∙ or_block 22 q 1 r 0 (omega arith) (omega arith)
    ∙ rw (odd_bit q, or_zero_r r) (chosen (eqb (q % 2) 0) q r b whole)
