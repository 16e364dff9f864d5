-- As the reading walk's step: no row means that the id is undefined; under the definition in force block_summed reads the block, or has its fault, and adds
-- its text.
use Rattle.bsii_string.proofs.Passed.{passed_on}
use Rattle.bsii_parse.proofs.Passing.{carrying_undefined}
use Rattle.bsii_measure.proofs.StepLaws.{sum_unread, block_refused, block_passed}
use Rattle.bsii_measure.proofs.walk.block_step.Goals as goal

pub returns-in_default : goal.returns-in_default
returns-in_default c = rw c.refused.ensures (sum_unread c.args.tally (carrying_undefined c.in_default.ensures))

pub returns-in_err-block : goal.returns-in_err-block
returns-in_err-block c = rw (passed_on c.from_residual.ensures.1) (block_refused c.in-Some.ensures c.size.ensures c.in_err-block.ensures)

pub returns : goal.returns
returns c = block_passed c.in-Some.ensures c.size.ensures c.in_ok-block.ensures c.requires.0 c.max.ensures
