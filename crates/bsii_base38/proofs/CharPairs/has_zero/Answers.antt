use Rattle.bsii_base38.proofs.Rule.{pair_marked}
use Rattle.bsii_base38.proofs.CharPairs.has_zero.Goals as goal

pub returns : goal.returns
returns c = rw c.pair_at.ensures (pair_marked c.args.r c.requires)
