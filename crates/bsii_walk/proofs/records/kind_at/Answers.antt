use Rattle.bsii_walk.proofs.Answered.{ok_some, ok_none}
use Rattle.bsii_walk.proofs.HeadKinds.{kind_cut, kind_block, kind_marked}
use Rattle.bsii_walk.proofs.records.kind_at.Goals as goal

pub returns-in_err-id : goal.returns-in_err-id
returns-in_err-id c = let a = c.args in kind_cut a.s.now a.at c.le_u32.ensures (ok_none c.le_u32.result c.in_err-id.ensures.value).1 _

pub returns-then-id-ne0 : goal.returns-then-id-ne0
returns-then-id-ne0 c = let a = c.args in kind_block a.s.now a.at c.le_u32.ensures (ok_some c.le_u32.result c.in_ok-id.ensures.value) c.if-id-ne0.true

pub returns : goal.returns
returns c = let a = c.args in kind_marked a.s.now a.at c.le_u32.ensures (ok_some c.le_u32.result c.in_ok-id.ensures.value) c.if-id-ne0.false c.mark_at.ensures
