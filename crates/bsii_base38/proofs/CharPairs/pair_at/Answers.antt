use Rattle.bsii_base38.proofs.CharPairs.pair_at.Goals as goal

pub returns : goal.returns
returns c = c.args.self.now.rule.entries _ c.requires
