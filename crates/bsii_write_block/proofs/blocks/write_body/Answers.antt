-- The block's text is its opening, the lines of its fields and the closing brace, each written behind the one before; where the fields are refused,
-- the joined text is refused alike.
use Rattle.bsii_format.specs.Text.{value_text}
use Rattle.bsii_format.specs.BlockText.{closing}
use Rattle.bsii_string.proofs.Passed.{passed_on}
use Rattle.bsii_write_block.proofs.BlockLaws.{body_refused, body_written}
use Rattle.bsii_write_block.proofs.blocks.write_body.Goals as goal

pub returns-in_err-body : goal.returns-in_err-body
returns-in_err-body c =
    let a = c.args in
    rw (passed_on c.from_residual.ensures.1)
    (body_refused value_text a.s.now a.id a.start a.fields a.name a.last_fields c.write_opening-opening.ensures c.in_err-body.ensures)

pub returns : goal.returns
unfolding closing
returns c =
    let a = c.args in
    body_written value_text a.s.now a.id a.start a.fields a.name a.last_fields c.write_opening-opening.ensures c.in_ok-body.ensures c.put_all.ensures
