use mathlib.Core.Path.{sym}
use native.Mathlib.Omega.{arith}
use Rattle.bsii_digits.proofs.Counts.{at_most_twenty}
use Rattle.bsii_string.proofs.Passed.{passed_on}
use Rattle.bsii_value.specs.Kinds.{kind_is}
use Rattle.bsii_measure_value.proofs.ValueMeasures.{array_short, first_at, array_fault, array_fits, array_next}
use Rattle.bsii_measure_value.proofs.values.array_measured.Goals as goal

pub returns-in_err-n : goal.returns-in_err-n
returns-in_err-n c = let a = c.args in rw (passed_on c.from_residual.ensures.1) (array_short a.s.now a.at a.name (kind_is a.kind) (sym c.in_err-n.ensures))

pub row_measured-requires : goal.row_measured-requires
row_measured-requires c =
    let a = c.args in
    (omega arith, (first_at a.s.now a.at a.name (kind_is a.kind) (sym c.in_ok-n.ensures) (omega arith)).1, omega arith)

pub returns-in_err-row : goal.returns-in_err-row
returns-in_err-row c =
    let a = c.args in
    rw (passed_on c.from_residual-in_err-row.ensures.1) (array_fault a.s.now a.at a.name (kind_is a.kind) (sym c.in_ok-n.ensures) c.in_err-row.ensures)

pub overflow_add-result-2 : goal.overflow_add-result-2
overflow_add-result-2 c = omega (arith, c.decimal_count.ensures, at_most_twenty c.in_ok-n.n (omega arith))

pub overflow_add-result-3 : goal.overflow_add-result-3
overflow_add-result-3 c =
    let a = c.args in
    omega (arith, c.decimal_count.ensures, at_most_twenty c.in_ok-n.n (omega arith), array_fits a.s.now a.at a.name (kind_is a.kind) (sym c.in_ok-n.ensures) c.in_ok-row.ensures)

pub returns : goal.returns
returns c =
    let a = c.args in
    array_next a.s.now a.at a.name (kind_is a.kind) (sym c.in_ok-n.ensures) c.in_ok-row.ensures c.decimal_count.ensures
    (omega (arith, c.decimal_count.ensures, at_most_twenty c.in_ok-n.n (omega arith))) (omega arith) (omega arith)
