-- As in read_block, but blocks of other names were passed over: what was found is the n-th of the blocks whose last prototype has the name, and
-- the number it carries is that block's among all blocks.
use Rattle.bsii_string.proofs.Passed.{passed_on}
use Rattle.bsii_file.proofs.BlockCalls.{number_refused, number_answers}
use Rattle.bsii_file.proofs.blocks.read_named.Goals as goal

pub returns-in_err-found : goal.returns-in_err-found
returns-in_err-found c = rw (passed_on c.from_residual.ensures.1) (number_refused c.in_err-found.ensures)

pub returns : goal.returns
returns c = number_answers c.in_ok-found.ensures
