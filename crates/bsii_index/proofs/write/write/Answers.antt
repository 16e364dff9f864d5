use Rattle.bsii_string.proofs.Passed.{passed_on}
use Rattle.bsii_index.proofs.Writing.{tree_readable, tree_written, tree_refused}
use Rattle.bsii_index.proofs.write.write.Goals as goal

pub returns-in_err-totals : goal.returns-in_err-totals
returns-in_err-totals c =
    let a = c.args in
    rw (passed_on {f = record { refusal = c.in_err-totals.field-0.0; needed = 0 }} c.from_residual.ensures.1) (tree_refused c.in_err-totals.ensures a.width a.space.now)

pub write_read-requires : goal.write_read-requires
write_read-requires c = tree_readable c.requires c.in_ok-totals.ensures

pub returns : goal.returns
returns c = tree_written c.in_ok-totals.ensures c.write_read.ensures
