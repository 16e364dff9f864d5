use Prim.Native.Nat.{◌+◌, ◌-◌}
use mathlib.Core.Path.{sym, ◌∙◌}
use native.Mathlib.Omega.{arith}
use Rattle.bsii_index_record.proofs.Numbers.{sets_more, sets_none}
use Rattle.bsii_index_record.proofs.put_number.Goals as goal

pub loop-i-preserved : goal.loop-i-preserved
loop-i-preserved c =
    let a = c.args in
    let l = c.loop-i in
    sets_more l.out a.width a.at l.i l.rest (omega arith) ∙ l.invariant

pub returns : goal.returns
returns c =
    let a = c.args in
    let l = c.loop-i in
    sym (sets_none l.out (a.width - l.i) (a.at + l.i) l.rest (omega arith)) ∙ l.invariant
