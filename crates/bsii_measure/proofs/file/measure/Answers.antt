-- The tree that was read, in order, and the sum with the file's frame. With as many rows as prototypes each definition in force is the last one of its id.
use native.Mathlib.Omega.{arith}
use Rattle.bsii_string.proofs.Passed.{passed_on}
use Rattle.bsii_measure.proofs.FileLaws.{measured_fault, measured_linked, measured_fits, measured_file}
use Rattle.bsii_measure.proofs.file.measure.Goals as goal

pub returns-in_err-totals : goal.returns-in_err-totals
returns-in_err-totals c = rw (passed_on c.from_residual.ensures.1) (measured_fault c.in_err-totals.ensures)

pub order-requires : goal.order-requires
order-requires c = measured_linked c.in_ok-totals.ensures

pub overflow_add-framed : goal.overflow_add-framed
overflow_add-framed c = omega (arith, measured_fits c.in_ok-totals.ensures)

pub returns : goal.returns
returns c = measured_file c.in_ok-totals.ensures c.order.ensures
