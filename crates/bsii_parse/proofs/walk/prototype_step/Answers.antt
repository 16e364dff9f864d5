-- With its head read, the record is the prototype whose fields were passed: `define` puts its offset in the id's row, so the table holds it in
-- front of the definitions so far; or the id is new and has no room, and then the records are refused too.
use Rattle.bsii_string.proofs.Passed.{passed_on}
use Rattle.bsii_parse.proofs.Passing.{defining_fault, defining_full, defining_row}
use Rattle.bsii_parse.proofs.walk.prototype_step.Goals as goal

pub returns-in_err-list : goal.returns-in_err-list
returns-in_err-list g c = rw (passed_on c.from_residual.ensures.1) (defining_fault c.in_err-list.ensures)

pub returns-in_default : goal.returns-in_default
returns-in_default g c = rw c.refused.ensures (defining_full c.in_ok-list.ensures c.define.ensures c.in_default.is)

pub returns : goal.returns
returns g c = defining_row c.in_ok-list.ensures c.define.ensures c.in-Some.is
