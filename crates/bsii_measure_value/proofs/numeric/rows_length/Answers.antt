use mathlib.Core.Path.{◌≡◌}
use Prim.Native.Nat.{◌-◌, ◌*◌}
use native.Mathlib.Omega.{arith}
use lib.ListN.{length}
use Rattle.bsii_format.specs.Types.{width, arity, numbers}
use Rattle.bsii_value.specs.Kinds.{numeric_is}
use Rattle.bsii_measure_value.proofs.ElementMeasures.{element_fine, adding_start, adding_fits, adding_next, adding_done}
use Rattle.bsii_measure_value.proofs.NumberMeasures.{room, there_next, row_end}
use Rattle.bsii_measure_value.proofs.numeric.rows_length.Goals as goal

pub loop-i-init : goal.loop-i-init
loop-i-init c =
    let a = c.args in
    let z : a.count - 0 ≡ a.count = omega arith in
    (adding_start a.s.now a.start a.count (numbers (numeric_is a.kind)) a.name (omega arith), rw z)

pub overflow_add-next : goal.overflow_add-next
overflow_add-next c =
    let a = c.args in
    let s = a.s.now in
    let k = numeric_is a.kind in
    let m = room a.start a.count (arity k * width k) (length s) c.loop-i.at c.loop-i.i (omega arith) (omega arith) c.loop-i.invariant.1 in
    omega (arith, m.fits, c.byte_count-each.ensures)

pub slice_bounds-element_length-end : goal.slice_bounds-element_length-end
slice_bounds-element_length-end c =
    let a = c.args in
    let s = a.s.now in
    let k = numeric_is a.kind in
    let m = room a.start a.count (arity k * width k) (length s) c.loop-i.at c.loop-i.i (omega arith) (omega arith) c.loop-i.invariant.1 in
    omega (arith, m.fits, c.byte_count-each.ensures)

pub overflow_add-long-in-loop-i-3 : goal.overflow_add-long-in-loop-i-3
overflow_add-long-in-loop-i-3 c = omega (arith, c.element_length.ensures.small, adding_fits c.args.s.now c.loop-i.invariant.0 (omega arith))

pub loop-i-preserved : goal.loop-i-preserved
loop-i-preserved c =
    let a = c.args in
    let s = a.s.now in
    let k = numeric_is a.kind in
    let m = room a.start a.count (arity k * width k) (length s) c.loop-i.at c.loop-i.i (omega arith) (omega arith) c.loop-i.invariant.1 in
    let e = there_next s c.loop-i.at k (omega (arith, m.fits)) (omega (arith, c.byte_count-each.ensures)) c.element_length.ensures in
    let f = element_fine s c.loop-i.at (λ i. omega (arith, c.type_inv.s i)) (omega arith) (numbers k) e in
    (adding_next s c.loop-i.invariant.0 (omega arith) (omega arith) c.index_length.ensures.0 c.index_length.ensures.1 e f, omega (arith, m.rest, c.byte_count-each.ensures))

pub returns : goal.returns
returns c =
    let a = c.args in
    row_end a.s.now a.start a.count (numeric_is a.kind) (omega arith) c.loop-i.invariant.1 (adding_done a.s.now c.loop-i.invariant.0 (omega arith))
