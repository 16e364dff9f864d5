-- What is stored of an accepted element that is numbers, by the numbers that stand in its bytes.
use Prim.Native.Nat.{ℕ, ◌+◌, ◌≤◌}
use mathlib.Core.Path.{◌≡◌, refl, ap, ◌∙◌}
use mathlib.Core.Option.{some}
use mathlib.Core.List.{List, []}
use native.Mathlib.Omega.{arith}
use Rattle.bsii_format.specs.Types.{width, arity}
use Rattle.bsii_format.specs.Text.{numeric_text}
use Rattle.bsii_string.specs.NumbersAt.{numbers_at}
use Rattle.bsii_value.specs.declared.types.Numeric.{Numeric}
use Rattle.bsii_value.specs.declared.types.Numeric.TheVariants.{Enum}
use Rattle.bsii_value.specs.Kinds.{numeric_is}
use Rattle.bsii_value.proofs.NumericTexts.{same_text_law, no_text}
use Rattle.bsii_window.specs.Stored.{Stored}
use Rattle.bsii_window.proofs.Stores.{stored_being, stored_same}
use Rattle.bsii_numeric.specs.Written.{NumericStored}

-- a text that the numbers have
pub accepted : {A : Type 0} (text : A → List ℕ) {v w : A} {k j : Numeric} {raw old new : List ℕ} {to r : ℕ}
    → j ≡ k → v ≡ w → numeric_text [] (numeric_is k) (numbers_at (arity (numeric_is k)) (width (numeric_is k)) raw 0) ≡ some (text w) → Stored old to (text v) r new → r ≤ to + 201
    → NumericStored (numeric_is j) raw old to r new
accepted text {k = k} {raw = raw} z p e f m =
    rw z
    (record {
      stores = λ el n t h y g. stored_being (ap text p ∙ same_text_law (numeric_is k) raw h e g) f;
      least = omega (arith, f.next);
      most = m;
      size = stored_same f;
    })

-- without a list no enum has a text
pub unstored : {j : Numeric} {raw old : List ℕ} {to : ℕ} → j ≡ Enum → NumericStored (numeric_is j) raw old to to old
unstored {raw = raw} z = rw z (record { stores = λ el n t h y g. no_text raw h g; least = omega arith; most = omega arith; size = refl })
