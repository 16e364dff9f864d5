-- `values::numbers_end`: The products are at most what is left, so none wraps.
use Prim.Native.Nat.{◌/◌}
use native.Mathlib.Omega.{arith}
use native.Mathlib.Nat.{le_refl}
use Rattle.bsii_string.specs.Answers.{end_of}
use Rattle.bsii_value.proofs.NumberRows.{fitting, part, row_whole, row_empty, row_short}
use Rattle.bsii_value.proofs.values.numbers_end.Goals as goal

pub returns-then-width-eq0 : goal.returns-then-width-eq0
returns-then-width-eq0 c = let a = c.args in row_empty a.s.now a.at a.count a.width c.if-width-eq0.true

pub overflow_mul-fit : goal.overflow_mul-fit
overflow_mul-fit c = let w = c.size-each.result in omega (arith, fitting (c.left-rest.result / w) w c.left-rest.result (le_refl _))

pub overflow_sub-part : goal.overflow_sub-part
overflow_sub-part c = let w = c.size-each.result in omega (arith, fitting (c.left-rest.result / w) w c.left-rest.result (le_refl _))

pub overflow_add-at : goal.overflow_add-at
overflow_add-at c = let w = c.size-each.result in omega (arith, fitting (c.left-rest.result / w) w c.left-rest.result (le_refl _))

pub short-requires : goal.short-requires
short-requires c = omega (arith, part c.size-each.result c.left-rest.result (omega arith))

pub returns-then-whole-count : goal.returns-then-whole-count
unfolding end_of
returns-then-whole-count c =
    let a = c.args in
    rw c.short.ensures (row_short a.s.now a.at a.count a.width c.left-rest.ensures c.size-each.ensures (omega arith) c.if-whole-count.true)

pub overflow_mul-end : goal.overflow_mul-end
overflow_mul-end c = omega (arith, fitting c.args.count c.size-each.result c.left-rest.result c.if-whole-count.false)

pub overflow_add-end : goal.overflow_add-end
overflow_add-end c = omega (arith, fitting c.args.count c.size-each.result c.left-rest.result c.if-whole-count.false)

pub returns : goal.returns
returns c =
    let a = c.args in
    let w = c.size-each in
    rw w.ensures (row_whole a.s.now a.at a.count a.width (omega (arith, rw w.ensures at (fitting a.count w.result c.left-rest.result c.if-whole-count.false))))
