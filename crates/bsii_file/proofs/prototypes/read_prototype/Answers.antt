-- A file that was read leaves its own definitions in the table, so the last one there is the last one of the file; one that is refused is refused alike.
use Rattle.bsii_string.proofs.Passed.{passed_on}
use Rattle.bsii_file.proofs.Lookups.{was_read}
use Rattle.bsii_file.proofs.Definitions.{call_refused, call_answers}
use Rattle.bsii_file.proofs.prototypes.read_prototype.Goals as goal

pub returns-in_err-totals : goal.returns-in_err-totals
returns-in_err-totals c =
    let a = c.args in
    rw (passed_on c.from_residual.ensures.1) (call_refused a.id c.in_err-totals.ensures)

pub last_prototype-requires : goal.last_prototype-requires
last_prototype-requires c = (was_read c.in_ok-totals.ensures).kept.holds.valid

pub returns : goal.returns
returns c = call_answers c.in_ok-totals.ensures c.last_prototype.ensures
