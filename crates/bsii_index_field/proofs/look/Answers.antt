use Rattle.bsii_string.proofs.Passed.{passed_on}
use Rattle.bsii_index_field.proofs.Looks.{look_unread, look_bad, look_read}
use Rattle.bsii_index_field.proofs.look.Goals as goal

pub returns-in_err-under : goal.returns-in_err-under
returns-in_err-under c = rw (passed_on c.from_residual.ensures.1) (look_unread c.in_err-under.ensures)

pub returns-in_err-start : goal.returns-in_err-start
returns-in_err-start c = rw (passed_on c.from_residual-in_err-start.ensures.1) (look_bad c.in_ok-under.ensures c.in_err-start.ensures)

pub returns : goal.returns
returns c = look_read c.in_ok-under.ensures c.in_ok-start.ensures c.block_field.ensures
