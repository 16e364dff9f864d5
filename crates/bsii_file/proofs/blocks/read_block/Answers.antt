-- The k-th of the file's blocks was found, or none, which the call calls absent; a file that is refused is refused by the call with the same fault.
use Rattle.bsii_string.proofs.Passed.{passed_on}
use Rattle.bsii_file.proofs.BlockCalls.{block_refused, block_answers}
use Rattle.bsii_file.proofs.blocks.read_block.Goals as goal

pub returns-in_err-found : goal.returns-in_err-found
returns-in_err-found c = rw (passed_on c.from_residual.ensures.1) (block_refused c.in_err-found.ensures)

pub returns : goal.returns
returns c = block_answers c.in_ok-found.ensures c.block_found.ensures
