-- The walk beside an empty index is the reading: how far that agrees is not asked.
use Rattle.bsii_string.proofs.Passed.{passed_on}
use Rattle.bsii_parse.proofs.Whole.{tree_read, tree_unread}
use Rattle.bsii_parse.proofs.reading.tree_parser.Goals as goal

pub returns-in_err-compared : goal.returns-in_err-compared
returns-in_err-compared c = rw (passed_on c.from_residual.ensures.1) (tree_unread c.in_err-compared.ensures)

pub returns : goal.returns
returns c = tree_read c.in_ok-compared.ensures
