-- An output shorter than the text x has no room, and into any other one the walk writes all of x from the start on, and refuses nothing.
use native.Mathlib.Omega.{arith}
use Rattle.bsii_format.specs.Text.{value_text}
use Rattle.bsii_format.specs.BlockText.{every_block}
use Rattle.bsii_output.proofs.TextLaws.{text_short, text_unrefused, text_fits}
use Rattle.bsii_output.proofs.text.write_foreseen.Goals as goal

pub returns-then-output-figures : goal.returns-then-output-figures
returns-then-output-figures c = let a = c.args in text_short value_text every_block a.figures a.file.now a.table.now a.output.now c.refused.ensures (omega arith)

pub returns-in_err-write_bsii : goal.returns-in_err-write_bsii
returns-in_err-write_bsii c = let a = c.args in text_unrefused value_text every_block a.figures a.file.now a.table.now a.output.now c.in_err-write_bsii.ensures

pub returns : goal.returns
returns c = let a = c.args in text_fits value_text every_block a.figures a.file.now a.table.now a.output.now (omega arith) c.in_ok-write_bsii.ensures
