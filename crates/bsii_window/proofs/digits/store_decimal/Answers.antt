-- Below 10 the number is its one digit; from there on the digits that are filled in up to `to` and their number start at `to`.
use Prim.Native.Nat.{ℕ}
use mathlib.Core.Path.{sym, ap, ◌∙◌}
use mathlib.Core.List.{[], ◌∷◌}
use native.Mathlib.Omega.{arith}
use Rattle.bsii_digits.proofs.DigitLaws.{decimal_one}
use Rattle.bsii_digits.proofs.Counts.{at_most_twenty}
use Rattle.bsii_window.proofs.Stores.{stored_being, stored_filled}
use Rattle.bsii_window.proofs.digits.store_decimal.Goals as goal

pub returns-then-n-lt10 : goal.returns-then-n-lt10
returns-then-n-lt10 c =
    let n = c.args.n in
    let text = ap (λ (d : ℕ). d ∷ []) c.decimal_digit.ensures ∙ sym (decimal_one n (omega arith)) in
    (stored_being text c.store_byte.ensures, omega arith)

pub overflow_add-end : goal.overflow_add-end
overflow_add-end c = omega (arith, c.decimal_count.ensures, at_most_twenty c.args.n (omega arith))

pub fill_decimal-requires : goal.fill_decimal-requires
fill_decimal-requires c =
    let count = c.decimal_count.ensures in
    (omega (arith, count), omega (arith, count, at_most_twenty c.args.n (omega arith)))

pub returns : goal.returns
returns c =
    let count = c.decimal_count.ensures in
    let n = c.args.n in
    (stored_filled count (sym count) c.fill_decimal.ensures, omega (arith, count, at_most_twenty n (omega arith)))
