use mathlib.Core.Path.{sym}
use native.Mathlib.Omega.{arith}
use Rattle.bsii_digits.proofs.DigitLaws.{length_one, ten}
use Rattle.bsii_digits.proofs.Counts.{at_most_twenty}
use Rattle.bsii_measure_value.proofs.rows.index_length.Goals as goal

pub returns-then-i-lt10 : goal.returns-then-i-lt10
returns-then-i-lt10 c = (sym (length_one 10 ten c.args.i (omega arith)), omega arith)

pub returns : goal.returns
returns c = let d = c.decimal_count in (d.ensures, omega (arith, d.ensures, at_most_twenty c.args.i (omega arith)))
