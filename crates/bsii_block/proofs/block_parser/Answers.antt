use Rattle.bsii_block.proofs.Skipped.{block_checked}
use Rattle.bsii_block.proofs.block_parser.Goals as goal

pub returns : goal.returns
returns c = block_checked c.block_end.ensures
