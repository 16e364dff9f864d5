-- With two bytes left, the little-endian number there is theirs (`two_bytes`); with fewer there is none, which counts as 0.
use mathlib.Core.Path.{sym, ap, ◌∙◌}
use native.Mathlib.Omega.{arith}
use Rattle.bsii_format.proofs.Positions.{number_at_law, number_short}
use Rattle.bsii_string.specs.NumbersAt.{or_zero, number_at}
use Rattle.bsii_string.proofs.Bytes.{two_bytes}
use Rattle.bsii_string.proofs.at.u16_at.Goals as goal

pub returns-then-left-lt2 : goal.returns-then-left-lt2
unfolding number_at or_zero
returns-then-left-lt2 c = let a = c.args in sym (ap or_zero (number_short 2 a.s.now a.at (omega arith)))

pub returns : goal.returns
unfolding number_at or_zero
returns c =
    let a = c.args in
    omega (arith, c.from_le_bytes.ensures, two_bytes a.s.now a.at) ∙ sym (ap or_zero (number_at_law 2 a.s.now a.at (omega arith)))
