use native.Mathlib.Omega.{arith}
use Rattle.bsii_value.specs.Kinds.{kind_is}
use Rattle.bsii_string.proofs.Passed.{passed_on}
use Rattle.bsii_measure_value.proofs.ElementMeasures.{element_fine, adding_start, adding_fits, adding_fault, adding_next, adding_done}
use Rattle.bsii_measure_value.proofs.rows.elements_measured.Goals as goal

pub loop-i-init : goal.loop-i-init
loop-i-init c = let a = c.args in adding_start a.s.now a.start a.count (kind_is a.kind) a.name (omega arith)

pub returns-in_err-element : goal.returns-in_err-element
returns-in_err-element c = rw (passed_on c.from_residual.ensures.1) (adding_fault c.args.s.now c.loop-i.invariant (omega arith) c.in_err-element.ensures)

pub overflow_add-long-in-loop-i-2 : goal.overflow_add-long-in-loop-i-2
overflow_add-long-in-loop-i-2 c =
    let a = c.args in
    let f = element_fine a.s.now c.loop-i.at (λ i. omega (arith, c.type_inv.s i)) (omega arith) (kind_is a.kind) c.in_ok-element.ensures in
    omega (arith, f.most)

pub overflow_add-long-in-loop-i-3 : goal.overflow_add-long-in-loop-i-3
overflow_add-long-in-loop-i-3 c =
    let a = c.args in
    let s = a.s.now in
    let f = element_fine s c.loop-i.at (λ i. omega (arith, c.type_inv.s i)) (omega arith) (kind_is a.kind) c.in_ok-element.ensures in
    omega (arith, f.most, adding_fits s c.loop-i.invariant (omega arith))

pub loop-i-preserved : goal.loop-i-preserved
loop-i-preserved c =
    let a = c.args in
    let s = a.s.now in
    let e = c.in_ok-element.ensures in
    let f = element_fine s c.loop-i.at (λ i. omega (arith, c.type_inv.s i)) (omega arith) (kind_is a.kind) e in
    adding_next s c.loop-i.invariant (omega arith) (omega arith) c.index_length.ensures.0 c.index_length.ensures.1 e f

pub returns : goal.returns
returns c = adding_done c.args.s.now c.loop-i.invariant (omega arith)
