-- The prototype was accepted here, so its head and its fields are passed without a fault and end where it does; `enter` writes its offset as the one in
-- force, so the table has it in front of the definitions so far.
use Rattle.bsii_walk.proofs.Answered.{ok_some, ok_none}
use Rattle.bsii_walk.proofs.Meeting.{again_head_fault, again_fields_fault, again_entered}
use Rattle.bsii_walk.proofs.records.prototype_again.Goals as goal

pub returns-in_err-first : goal.returns-in_err-first
returns-in_err-first c =
    let a = c.args in
    rw c.from_residual.ensures (again_head_fault a.s.now a.at a.table.now a.rows a.id c.fields_at.ensures (ok_none c.fields_at.result c.in_err-first.ensures.value).1)

pub returns-in_err-list : goal.returns-in_err-list
returns-in_err-list c =
    let a = c.args in
    rw c.from_residual-in_err-list.ensures
    (again_fields_fault a.s.now a.at a.table.now a.rows a.id c.fields_at.ensures (ok_some c.fields_at.result c.in_ok-first.ensures.value) c.fields_with.ensures
    (ok_none c.fields_with.result c.in_err-list.ensures.value).1)

pub returns : goal.returns
returns c =
    let a = c.args in
    again_entered a.s.now a.at a.table.now a.rows a.id c.fields_at.ensures (ok_some c.fields_at.result c.in_ok-first.ensures.value) c.fields_with.ensures
    (ok_some c.fields_with.result c.in_ok-list.ensures.value) c.enter.ensures
