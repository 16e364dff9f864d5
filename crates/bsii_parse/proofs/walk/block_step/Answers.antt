-- The tree holds the definitions so far: no row means that the id is undefined, and a row's definition in force stands at its offset, so
-- the block ends where it does under it, or has its fault. The table is the same, and one block more was passed.
use Rattle.bsii_string.proofs.Passed.{passed_on}
use Rattle.bsii_parse.proofs.Passing.{carrying_undefined, carrying_fault, carrying_under}
use Rattle.bsii_parse.proofs.walk.block_step.Goals as goal

pub returns-in_default : goal.returns-in_default
returns-in_default g c = rw c.refused.ensures (carrying_undefined c.in_default.ensures)

pub returns-in_err-block : goal.returns-in_err-block
returns-in_err-block g c = rw (passed_on c.from_residual.ensures.1) (carrying_fault c.in-Some.ensures c.size-offset.ensures c.in_err-block.ensures)

pub returns : goal.returns
returns g c = carrying_under c.in-Some.ensures c.size-offset.ensures c.in_ok-block.ensures
