-- By the sum, which leaves the table as it is, or by the walk.
use native.Mathlib.Omega.{arith}
use Rattle.bsii_format.specs.Text.{value_text}
use Rattle.bsii_format.specs.BlockText.{every_block}
use Rattle.bsii_forecast.proofs.LengthLaws.{told_summed, told_again}
use Rattle.bsii_forecast.proofs.length.text_length.Goals as goal

pub returns-then-totals : goal.returns-then-totals
returns-then-totals c = told_summed value_text every_block (omega arith) c.summed_length.ensures

pub returns : goal.returns
returns c = told_again value_text every_block c.length_again.ensures
