use mathlib.Core.Path.{sym, ap, ◌∙◌}
use lib.ListN.{length}
use Rattle.bsii_digits.proofs.Counts.{at_most_twenty}
use Rattle.bsii_write.proofs.NumberLaws.{nil_text, decimal_text}
use native.Mathlib.Omega.{arith}
use Rattle.bsii_number_length.proofs.numbers.or_nil_length.Goals as goal

pub returns-then-n-largest : goal.returns-then-n-largest
returns-then-n-largest c =
    let a = c.args in
    (sym (ap length (nil_text a.largest a.n c.if-n-largest.true)), omega arith)

pub returns-else-n-largest : goal.returns-else-n-largest
returns-else-n-largest c =
    let a = c.args in
    (c.decimal_count.ensures ∙ sym (ap length (decimal_text a.largest a.n c.if-n-largest.false)), omega (arith, at_most_twenty a.n (omega arith)))
