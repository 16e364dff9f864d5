-- A head that marked_parser accepts has a mark, and with a mark other than 0 an id: mark 0 is the end, any other one a definition of that id, and bytes
-- that run out earlier belong to no accepted head.
use Rattle.bsii_walk.proofs.Answered.{ok_some, ok_none}
use Rattle.bsii_walk.proofs.HeadKinds.{mark_cut, mark_zero, mark_id_cut, mark_id}
use Rattle.bsii_walk.proofs.records.mark_at.Goals as goal

pub returns-in_err-mark : goal.returns-in_err-mark
returns-in_err-mark c = let a = c.args in mark_cut a.s.now a.at c.le_u8.ensures (ok_none c.le_u8.result c.in_err-mark.ensures.value).1 _

pub returns-then-mark-eq0 : goal.returns-then-mark-eq0
returns-then-mark-eq0 c = let a = c.args in mark_zero a.s.now a.at c.le_u8.ensures (ok_some c.le_u8.result c.in_ok-mark.ensures.value) c.if-mark-eq0.true

pub returns-in_err-id : goal.returns-in_err-id
returns-in_err-id c =
    let a = c.args in
    mark_id_cut a.s.now a.at c.le_u8.ensures (ok_some c.le_u8.result c.in_ok-mark.ensures.value) c.if-mark-eq0.false c.le_u32.ensures
    (ok_none c.le_u32.result c.in_err-id.ensures.value).1 _

pub returns : goal.returns
returns c =
    let a = c.args in
    mark_id a.s.now a.at c.le_u8.ensures (ok_some c.le_u8.result c.in_ok-mark.ensures.value) c.if-mark-eq0.false c.le_u32.ensures
    (ok_some c.le_u32.result c.in_ok-id.ensures.value)
