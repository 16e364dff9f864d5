-- minus_if puts the sign in front only if the number is negative, which is the branch that counts it.
use mathlib.Core.Path.{ap}
use mathlib.Core.Bool.{Bool}
use lib.ListN.{length}
use Rattle.bsii_format.specs.Digits.{decimal}
use Rattle.bsii_format.specs.Floats.{minus_if}
use Rattle.bsii_digits.proofs.Counts.{at_most_twenty}
use native.Mathlib.Omega.{arith}
use Rattle.bsii_number_length.proofs.floats.whole_length.Goals as goal

pub overflow_add-result : goal.overflow_add-result
overflow_add-result c = omega (arith, c.decimal_count-digits.ensures, at_most_twenty c.args.n.size (omega arith))

pub returns-then-n : goal.returns-then-n
unfolding minus_if
returns-then-n c =
    let size = c.args.n.size in
    let e = ap (λ (b : Bool). length (minus_if b (decimal size))) c.if-n.true in
    (omega (arith, e, c.decimal_count-digits.ensures), omega (arith, c.decimal_count-digits.ensures, at_most_twenty size (omega arith)))

pub returns-else-n : goal.returns-else-n
unfolding minus_if
returns-else-n c =
    let size = c.args.n.size in
    let e = ap (λ (b : Bool). length (minus_if b (decimal size))) c.if-n.false in
    (omega (arith, e, c.decimal_count-digits.ensures), omega (arith, c.decimal_count-digits.ensures, at_most_twenty size (omega arith)))
