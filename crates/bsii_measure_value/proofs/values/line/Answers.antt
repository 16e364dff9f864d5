use mathlib.Core.Path.{sym, ap}
use native.Mathlib.Omega.{arith}
use Rattle.bsii_string.proofs.Passed.{passed_on}
use Rattle.bsii_measure_value.specs.Rows.{line_of}
use Rattle.bsii_measure_value.proofs.ValueMeasures.{short_by_law}
use Rattle.bsii_measure_value.proofs.values.line.Goals as goal

pub returns-in_err-at : goal.returns-in_err-at
returns-in_err-at c = rw (passed_on c.from_residual.ensures.1) (sym (ap (line_of c.args.name) c.in_err-at.was))

pub overflow_add-result : goal.overflow_add-result
overflow_add-result c = omega (arith, short_by_law c.in_ok-at.was c.requires.0)

pub returns : goal.returns
returns c = sym (ap (line_of c.args.name) c.in_ok-at.was)
