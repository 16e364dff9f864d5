use mathlib.Core.Path.{sym, ◌∙◌}
use native.Mathlib.Omega.{arith}
use Rattle.bsii_index_record.proofs.Numbers.{same_short, same_equal, same_differs, same_end}
use Rattle.bsii_index_record.proofs.number_is.Goals as goal

pub returns-then-left-width : goal.returns-then-left-width
returns-then-left-width c =
    let a = c.args in
    sym (same_short a.width a.n a.s.now a.at (omega arith))

pub returns-then-s-at : goal.returns-then-s-at
returns-then-s-at c =
    let a = c.args in
    let l = c.loop-i in
    sym (l.invariant ∙ same_differs a.width l.rest a.s.now a.at l.i (omega arith) (omega arith) c.if-s-at.true)

pub loop-i-preserved : goal.loop-i-preserved
loop-i-preserved c =
    let a = c.args in
    let l = c.loop-i in
    l.invariant ∙ same_equal a.width l.rest a.s.now a.at l.i (omega arith) (omega arith) c.if-s-at.false

pub returns : goal.returns
returns c =
    let a = c.args in
    let l = c.loop-i in
    sym (l.invariant ∙ same_end a.width l.rest a.s.now a.at l.i (omega arith))
