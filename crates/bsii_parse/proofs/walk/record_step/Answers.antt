-- The head says which record stands here, and each arm is the step for it. No more rows than bytes were passed, so a new row's number fits: with the
-- id that stands here this is Named, which prototype_step asks for.
use Rattle.bsii_string.proofs.Passed.{passed_on}
use Rattle.bsii_parse.proofs.Tables.{named_at}
use Rattle.bsii_parse.proofs.Passing.{head_law, stepped_end, stepped_bad, stepped_defining, stepped_carrying}
use Rattle.bsii_parse.proofs.walk.record_step.Goals as goal

pub returns-in_err-next : goal.returns-in_err-next
returns-in_err-next g c = rw (passed_on c.from_residual.ensures.1) (stepped_bad c.in_err-next.ensures)

pub prototype_step-requires : goal.prototype_step-requires
prototype_step-requires g c = (c.requires, named_at c.requires (head_law c.args.s.now c.args.p.at c.in_ok-next.ensures c.in-Prototype.is))

pub returns-in-End : goal.returns-in-End
returns-in-End g c = stepped_end c.in_ok-next.ensures c.in-End.is

pub returns-in-Prototype : goal.returns-in-Prototype
returns-in-Prototype g c = stepped_defining c.in_ok-next.ensures c.in-Prototype.is c.prototype_step.ensures

pub returns-in-Block : goal.returns-in-Block
returns-in-Block g c = stepped_carrying c.in_ok-next.ensures c.in-Block.is c.block_step.ensures
