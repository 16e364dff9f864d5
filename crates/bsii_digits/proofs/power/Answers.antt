use mathlib.Core.Path.{refl}
use mathlib.Core.List.{◌∷◌}
use lib.ListN.{get_or}
use Rattle.bsii_digits.specs.Counts.{tens}
use Rattle.bsii_digits.proofs.Counts.{bounds}
use Rattle.bsii_digits.proofs.Tables.{holds, agree}
use Rattle.bsii_digits.proofs.power.Goals as goal

pub returns : goal.returns
unfolding tens holds
returns c = agree (λ t. get_or (0 ∷ bounds 10 10 19) t 0) tens 20 refl c.args.t c.requires
