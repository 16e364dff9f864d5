-- How long a number's text is by the digits that were counted, and the text of an accepted element by the numbers that stand in its bytes.
use Prim.Native.Nat.{ℕ, zero, suc, ◌+◌, ◌-◌, ◌*◌, ◌^◌, ◌≤◌, ◌<◌}
use mathlib.Core.Path.{◌≡◌, sym, ap, ◌∙◌}
use mathlib.Core.Option.{some}
use mathlib.Core.List.{List, [], map}
use native.Mathlib.Omega.{arith}
use lib.ListN.{length}
use Rattle.std.specs.List.{sum_by}
use Rattle.bsii_format.specs.Numbers.{signed}
use Rattle.bsii_format.specs.Digits.{decimal, decimal_int}
use Rattle.bsii_format.specs.Types.{width, arity}
use Rattle.bsii_format.specs.Text.{numeric_text}
use Rattle.bsii_float.specs.Texts.{row_text}
use Rattle.bsii_float.proofs.Rows.{spelled}
use Rattle.bsii_length.proofs.Elements.{vec2_length, vec3_length, vec4_length}
use Rattle.bsii_string.specs.NumbersAt.{numbers_at}
use Rattle.bsii_value.specs.declared.types.Numeric.{Numeric}
use Rattle.bsii_value.specs.declared.types.Numeric.TheVariants.{Enum}
use Rattle.bsii_value.specs.Kinds.{numeric_is}
use Rattle.bsii_value.proofs.NumericTexts.{same_text_law, no_text}
use Rattle.bsii_digits.proofs.Counts.{at_most_twenty}
use Rattle.bsii_write.proofs.NumberLaws.{positive, negative}
use Rattle.bsii_number_length.specs.Lengths.{NumericLength}

-- ---- two's complement

pub positive_length : (half n : ℕ) {r : ℕ} → r ≡ length (decimal n) → n < half → n < 2 ^ 64 → (r ≡ length (decimal_int (signed half n))) × (r ≤ 21)
positive_length half n e h l = (e ∙ sym (ap length (positive half n h)), omega (arith, at_most_twenty n l))

-- with all values one more than k
pub negative_length : (half k n m : ℕ) {r : ℕ} → r ≡ length (decimal m) → 2 * half ≡ suc k → half ≤ n → n < suc k → m ≡ suc k - n → m < 2 ^ 64
    → (1 + r ≡ length (decimal_int (signed half n))) × (1 + r ≤ 21)
negative_length half k n m e z l h f s = (omega (arith, e, ap length (negative half k n m z l h f)), omega (arith, at_most_twenty m s))

-- ---- rows

-- of two, three or four texts: the brackets, and two bytes before each but the first
pub row_length : (text : ℕ → List ℕ) (n : ℕ) (l : List ℕ) → length l ≡ n → 2 ≤ n → n ≤ 4 → 2 * n + sum_by (λ k. length (text k)) l ≡ length (row_text (map text l))
row_length text zero l e f h = absurd (omega arith)
row_length text (suc zero) l e f h = absurd (omega arith)
row_length text (suc (suc zero)) l e f h =
    let s = spelled 0 2 l e in
    ap (λ l. 4 + sum_by (λ k. length (text k)) l) s ∙ rw vec2_length (omega arith) ∙ ap (λ l. length (row_text (map text l))) (sym s)
row_length text (suc (suc (suc zero))) l e f h =
    let s = spelled 0 3 l e in
    ap (λ l. 6 + sum_by (λ k. length (text k)) l) s ∙ rw vec3_length (omega arith) ∙ ap (λ l. length (row_text (map text l))) (sym s)
row_length text (suc (suc (suc (suc zero)))) l e f h =
    let s = spelled 0 4 l e in
    ap (λ l. 8 + sum_by (λ k. length (text k)) l) s ∙ rw vec4_length (omega arith) ∙ ap (λ l. length (row_text (map text l))) (sym s)
row_length text (suc (suc (suc (suc (suc n))))) l e f h = absurd (omega arith)

-- ---- accepted elements

-- a text that the numbers have
pub measured : {A : Type 0} (text : A → List ℕ) {v w : A} {k j : Numeric} {raw : List ℕ} {r : ℕ}
    → j ≡ k → v ≡ w → numeric_text [] (numeric_is k) (numbers_at (arity (numeric_is k)) (width (numeric_is k)) raw 0) ≡ some (text w) → r ≡ length (text v) → r < 256
    → NumericLength (numeric_is j) raw r
measured text {k = k} {raw = raw} z p e l s = rw z (record { is = λ el n t h y f. l ∙ ap (λ v. length (text v)) p ∙ ap length (same_text_law (numeric_is k) raw h e f); small = s })

-- without a list no enum has a text
pub unmeasured : {j : Numeric} {raw : List ℕ} {r : ℕ} → j ≡ Enum → r < 256 → NumericLength (numeric_is j) raw r
unmeasured {raw = raw} z s = rw z (record { is = λ el n t h y f. no_text raw h f; small = s })
