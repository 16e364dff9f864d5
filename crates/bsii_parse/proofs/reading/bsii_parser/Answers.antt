-- `bsii_parser` meets its contract: the tree that was read, in order.
use Rattle.bsii_string.proofs.Passed.{passed_on}
use Rattle.bsii_parse.proofs.Whole.{tree_linked, tree_ordered, tree_stopped}
use Rattle.bsii_parse.proofs.reading.bsii_parser.Goals as goal

pub returns-in_err-totals : goal.returns-in_err-totals
returns-in_err-totals c = rw (passed_on c.from_residual.ensures.1) (tree_stopped c.in_err-totals.ensures)

pub order-requires : goal.order-requires
order-requires c = tree_linked c.in_ok-totals.ensures

pub returns : goal.returns
returns c = tree_ordered c.in_ok-totals.ensures c.order.ensures
