-- Both definitions of the id are entered in the table, so a row is found, and its two offsets are where they stand: the block's text is written under
-- these, and the answer is the same as a step.
use Rattle.bsii_format.specs.Text.{value_text}
use Rattle.bsii_string.proofs.Passed.{passed_on}
use Rattle.bsii_text.proofs.RecordLaws.{block_unknown, block_step_law}
use Rattle.bsii_text.proofs.records.write_block.Goals as goal

pub returns-in_default : goal.returns-in_default
returns-in_default c = let a = c.args in block_unknown value_text a.s.now a.offset a.table.now a.rows a.prototype_id a.id a.out.now a.to c.in_default.ensures

pub returns-in_err-lines : goal.returns-in_err-lines
returns-in_err-lines c =
    let a = c.args in
    rw (passed_on c.from_residual.ensures.1)
    (block_step_law value_text a.s.now a.offset a.table.now a.rows a.prototype_id a.id a.out.now a.to c.in-Some.ensures c.size-under.ensures c.size-named.ensures c.in_err-lines.ensures)

pub returns : goal.returns
returns c =
    let a = c.args in
    block_step_law value_text a.s.now a.offset a.table.now a.rows a.prototype_id a.id a.out.now a.to c.in-Some.ensures c.size-under.ensures c.size-named.ensures c.in_ok-lines.ensures
