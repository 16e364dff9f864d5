-- A file above the limit, a bad header and the walk behind the header: each as the reading call has it.
use mathlib.Core.Path.{sym}
use native.Mathlib.Omega.{arith}
use Rattle.bsii_string.proofs.Passed.{passed_on}
use Rattle.bsii_parse.proofs.Whole.{header_long}
use Rattle.bsii_measure.proofs.FileLaws.{measured_long, measured_header, measured_walk}
use Rattle.bsii_measure.proofs.file.measure_tree.Goals as goal

pub returns-then-file-gt-LENGTH_LIMIT : goal.returns-then-file-gt-LENGTH_LIMIT
returns-then-file-gt-LENGTH_LIMIT c = let a = c.args in rw c.refused.ensures (measured_long a.file.now a.table.now c.if-file-gt-LENGTH_LIMIT.true)

pub returns-in_err-version : goal.returns-in_err-version
returns-in_err-version c =
    let a = c.args in
    rw (passed_on c.from_residual.ensures.1) (measured_header a.file.now a.table.now (omega (arith, c.if-file-gt-LENGTH_LIMIT.false)) (sym c.in_err-version.ensures))

pub walk-requires : goal.walk-requires
walk-requires c =
    let a = c.args in
    let short = c.if-file-gt-LENGTH_LIMIT.false in
    (omega (arith, short), header_long a.file.now a.table.now (omega (arith, short)) (sym c.in_ok-version.ensures))

pub returns : goal.returns
returns c =
    let a = c.args in
    measured_walk a.file.now a.table.now (omega (arith, c.if-file-gt-LENGTH_LIMIT.false)) (sym c.in_ok-version.ensures) c.walk.ensures
