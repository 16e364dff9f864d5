-- The file's text is its opening, the text of its records and the closing brace, each written behind the one before, from 2^63 on, where the window
-- starts; a refusal of the records is one of the whole text.
use Rattle.bsii_format.specs.Text.{value_text}
use Rattle.bsii_format.specs.BlockText.{every_block, file_opening, closing}
use Rattle.bsii_string.proofs.Passed.{passed_on}
use Rattle.bsii_text.proofs.WalkLaws.{file_refused, file_written}
use Rattle.bsii_text.proofs.records.write_bsii.Goals as goal

pub returns-in_err-end : goal.returns-in_err-end
unfolding file_opening
returns-in_err-end c =
    let a = c.args in
    rw (passed_on c.from_residual.ensures.1)
    (file_refused value_text every_block a.s.now a.start a.table.now a.rows c.put_all-opening.ensures c.in_err-end.ensures)

pub returns : goal.returns
unfolding file_opening closing
returns c =
    let a = c.args in
    file_written value_text every_block a.s.now a.start a.table.now a.rows c.put_all-opening.ensures c.in_ok-end.ensures c.put_all.ensures
