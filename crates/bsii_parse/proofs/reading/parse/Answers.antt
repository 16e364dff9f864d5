-- The tree holds a row for each id, so the rows count the distinct ids, and the blocks passed are the file's; clearing leaves zeros in a table of the
-- same length.
use Rattle.bsii_string.proofs.Passed.{passed_on}
use Rattle.bsii_parse.proofs.Whole.{read_answer, unread_answer}
use Rattle.bsii_parse.proofs.reading.parse.Goals as goal

pub returns-in_err-totals-clause-reply : goal.returns-in_err-totals-clause-reply
returns-in_err-totals-clause-reply c = rw (passed_on c.from_residual.ensures.1) (unread_answer c.in_err-totals.ensures)

pub returns-clause-reply : goal.returns-clause-reply
returns-clause-reply c = read_answer c.in_ok-totals.ensures
