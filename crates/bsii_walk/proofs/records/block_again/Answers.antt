-- Both definitions of the id are entered, so a row is found and has their offsets; under the one in force skip_block ends where the accepted block does,
-- and so meets no fault.
use Rattle.bsii_walk.proofs.Answered.{ok_some, ok_none}
use Rattle.bsii_walk.proofs.Meeting.{again_unknown, again_block_fault, again_block}
use Rattle.bsii_walk.proofs.records.block_again.Goals as goal

pub returns-in_err-row : goal.returns-in_err-row
returns-in_err-row c = let a = c.args in rw c.from_residual.ensures (again_unknown a.s.now a.at a.id a.table.now a.rows a.prototype c.find.ensures c.in_err-row.was)

pub returns-in_err-end : goal.returns-in_err-end
returns-in_err-end c =
    let a = c.args in
    rw c.from_residual-in_err-end.ensures
    (again_block_fault a.s.now a.at a.id a.table.now a.rows a.prototype c.find.ensures c.in_ok-row.was c.size-under.ensures c.size-last.ensures c.skip_block.ensures
    (ok_none c.skip_block.result c.in_err-end.ensures.value).1)

pub returns : goal.returns
returns c =
    let a = c.args in
    again_block a.s.now a.at a.id a.table.now a.rows a.prototype c.find.ensures c.in_ok-row.was c.size-under.ensures c.size-last.ensures c.skip_block.ensures
    (ok_some c.skip_block.result c.in_ok-end.ensures.value)
