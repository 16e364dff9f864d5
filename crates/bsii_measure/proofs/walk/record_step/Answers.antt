-- The head says which record stands here, and each arm is the step for it. A block's id starts behind the head, inside the file, so the sum fits there.
use Rattle.bsii_string.proofs.Passed.{passed_on}
use Rattle.bsii_parse.proofs.Tables.{named_at}
use Rattle.bsii_parse.proofs.Passing.{head_law, stepped_end, stepped_bad}
use Rattle.bsii_measure.proofs.StepLaws.{sum_ended, sum_refused, head_moves, sum_defining, sum_carrying}
use Rattle.bsii_measure.proofs.walk.record_step.Goals as goal

pub returns-in_err-next : goal.returns-in_err-next
returns-in_err-next c = rw (passed_on c.from_residual.ensures.1) (sum_refused c.args.tally (stepped_bad c.in_err-next.ensures))

pub returns-in-End : goal.returns-in-End
returns-in-End c = sum_ended c.args.tally (stepped_end c.in_ok-next.ensures c.in-End.is)

pub prototype_step-requires : goal.prototype_step-requires
prototype_step-requires c = (c.requires, named_at c.requires.ready (head_law c.args.s.now c.args.p.at c.in_ok-next.ensures c.in-Prototype.is))

pub returns-in-Prototype : goal.returns-in-Prototype
returns-in-Prototype c = sum_defining c.in_ok-next.ensures c.in-Prototype.is c.prototype_step.ensures

pub block_step-requires : goal.block_step-requires
block_step-requires c =
    let m = head_moves c.args.s.now c.args.p.at c.in_ok-next.ensures c.in-Block.is c.requires.ready.inside in
    (c.requires, m.0, m.1)

pub returns-in-Block : goal.returns-in-Block
returns-in-Block c = sum_carrying c.in_ok-next.ensures c.in-Block.is c.block_step.ensures
