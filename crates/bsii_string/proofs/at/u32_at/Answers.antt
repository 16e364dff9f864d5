use mathlib.Core.Path.{ap, ◌∙◌}
use Rattle.std.proofs.Common.{rules}
use Rattle.bsii_string.specs.NumbersAt.{or_zero, number_at}
use Rattle.bsii_string.proofs.NumbersAt.{value_of}
use Rattle.bsii_string.proofs.at.u32_at.Goals as goal

pub returns : goal.returns
unfolding number_at
returns c = value_of c.args.s.now c.le_u32.result c.map_or.ensures (λ x e. search rules) ∙ ap or_zero c.le_u32.ensures
