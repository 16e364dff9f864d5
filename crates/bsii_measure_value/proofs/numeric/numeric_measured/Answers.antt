use native.Mathlib.Omega.{arith}
use Rattle.bsii_string.proofs.Passed.{passed_on}
use Rattle.bsii_value.specs.Kinds.{numeric_is}
use Rattle.bsii_measure_value.proofs.NumberMeasures.{numeric_fault, numeric_place, numeric_next}
use Rattle.bsii_measure_value.proofs.numeric.numeric_measured.Goals as goal

pub returns-in_err-next : goal.returns-in_err-next
returns-in_err-next c = let a = c.args in rw (passed_on c.from_residual.ensures.1) (numeric_fault a.s.now a.at (numeric_is a.kind) c.in_err-next.ensures)

pub slice_bounds-element_length-count : goal.slice_bounds-element_length-count
slice_bounds-element_length-count c =
    let a = c.args in
    omega (arith, numeric_place a.s.now a.at (numeric_is a.kind) (λ i. omega (arith, c.type_inv.s i)) (omega arith) c.in_ok-next.ensures)

pub slice_bounds-element_length-start : goal.slice_bounds-element_length-start
slice_bounds-element_length-start c =
    let a = c.args in
    omega (arith, numeric_place a.s.now a.at (numeric_is a.kind) (λ i. omega (arith, c.type_inv.s i)) (omega arith) c.in_ok-next.ensures)

pub slice_bounds-element_length-end : goal.slice_bounds-element_length-end
slice_bounds-element_length-end c =
    let a = c.args in
    omega (arith, numeric_place a.s.now a.at (numeric_is a.kind) (λ i. omega (arith, c.type_inv.s i)) (omega arith) c.in_ok-next.ensures)

pub returns : goal.returns
returns c = let a = c.args in numeric_next a.s.now a.at (numeric_is a.kind) c.in_ok-next.ensures c.element_length.ensures
