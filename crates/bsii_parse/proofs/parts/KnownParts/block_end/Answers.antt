use Rattle.bsii_block.proofs.Skipped.{known_skipped}
use Rattle.bsii_parse.proofs.parts.KnownParts.block_end.Goals as goal

pub returns : goal.returns
returns c = known_skipped c.skip_block.ensures
