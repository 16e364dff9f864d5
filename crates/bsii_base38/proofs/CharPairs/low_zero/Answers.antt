use Rattle.bsii_base38.proofs.Rule.{low_marked}
use Rattle.bsii_base38.proofs.CharPairs.low_zero.Goals as goal

pub returns : goal.returns
returns c = rw c.pair_at.ensures (low_marked c.args.r c.requires)
