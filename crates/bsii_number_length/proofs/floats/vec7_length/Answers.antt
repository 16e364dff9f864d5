use lib.ListN.{length-append}
use Rattle.bsii_format.specs.Floats.{vec7_text}
use native.Mathlib.Omega.{arith}
use Rattle.bsii_number_length.proofs.floats.vec7_length.Goals as goal

pub returns : goal.returns
unfolding vec7_text
returns c = (simp length-append (omega arith), omega arith)
