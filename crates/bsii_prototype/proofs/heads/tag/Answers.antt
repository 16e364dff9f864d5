use mathlib.Core.Path.{◌∙◌}
use lib.ListN.{length, take}
use Rattle.bsii_prototype.proofs.Beginnings.{same_pointwise}
use Rattle.bsii_prototype.proofs.heads.tag.Goals as goal

pub returns : goal.returns
returns c = let a = c.args in c.starts_with.ensures.value ∙ same_pointwise a.c.now (take (length a.c.now) a.s.now)
