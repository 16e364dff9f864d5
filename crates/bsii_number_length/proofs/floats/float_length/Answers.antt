-- whole_number keeps the text: what number_text makes of its answer is float_text of the bits, so either arm measures that.
use mathlib.Core.Path.{ap, ◌∙◌}
use lib.ListN.{length}
use Rattle.bsii_format.specs.Floats.{bits_text}
use native.Mathlib.Omega.{arith}
use Rattle.bsii_number_length.proofs.floats.float_length.Goals as goal

pub returns-in-Some : goal.returns-in-Some
returns-in-Some c = (c.whole_length.ensures.0 ∙ ap length c.in-Some.ensures, omega arith)

pub returns-in-None : goal.returns-in-None
unfolding bits_text
returns-in-None c =
    let e = ap length c.in-None.ensures in
    (omega (arith, e), omega arith)
