-- A file that was read leaves a table from which its records can be walked again.
use Rattle.bsii_string.proofs.Passed.{passed_on}
use Rattle.bsii_file.proofs.Lookups.{was_read}
use Rattle.bsii_file.proofs.Rereading.{readable}
use Rattle.bsii_file.proofs.BlockCalls.{sought_there, sought_nowhere, sought_unread}
use Rattle.bsii_file.proofs.blocks.seek_block.Goals as goal

pub returns-in_err-totals : goal.returns-in_err-totals
returns-in_err-totals c = rw (passed_on c.from_residual.ensures.1) (sought_unread c.in_err-totals.ensures)

pub seek-requires : goal.seek-requires
seek-requires c = readable (was_read c.in_ok-totals.ensures)

pub returns-in_default : goal.returns-in_default
returns-in_default c = rw c.refused.ensures (sought_nowhere (was_read c.in_ok-totals.ensures) c.in_default.ensures)

pub returns : goal.returns
returns c = sought_there (was_read c.in_ok-totals.ensures) c.in-Some.ensures
