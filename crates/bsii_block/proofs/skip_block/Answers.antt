use Rattle.bsii_block.proofs.Skipped.{block_skipped}
use Rattle.bsii_block.proofs.skip_block.Goals as goal

pub returns : goal.returns
returns c = block_skipped c.block_end.ensures
