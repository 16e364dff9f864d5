-- The definition of a file asks in the same order: the length limit, the header, the records from 8 on. A header that was accepted has 8 bytes, so
-- the walk starts inside the file, and what it finds behind the header is the file.
use mathlib.Core.Path.{sym}
use native.Mathlib.Omega.{arith}
use Rattle.bsii_string.proofs.Passed.{passed_on}
use Rattle.bsii_parse.proofs.Whole.{file_long, header_fault, header_long, file_walked}
use Rattle.bsii_parse.proofs.reading.compare.Goals as goal

pub returns-then-file-gt-LENGTH_LIMIT : goal.returns-then-file-gt-LENGTH_LIMIT
returns-then-file-gt-LENGTH_LIMIT c =
    let a = c.args in
    rw c.refused.ensures (file_long a.file.now a.table.now a.index.now a.width c.if-file-gt-LENGTH_LIMIT.true)

pub returns-in_err-version : goal.returns-in_err-version
returns-in_err-version c =
    let a = c.args in
    rw (passed_on c.from_residual.ensures.1)
    (header_fault a.file.now a.table.now (omega (arith, c.if-file-gt-LENGTH_LIMIT.false)) a.index.now a.width (sym c.in_err-version.ensures))

pub walk-requires : goal.walk-requires
walk-requires c =
    let short = c.if-file-gt-LENGTH_LIMIT.false in
    (omega (arith, short), header_long c.args.file.now c.args.table.now (omega (arith, short)) (sym c.in_ok-version.ensures), c.requires)

pub returns : goal.returns
returns c =
    let a = c.args in
    file_walked a.file.now a.table.now (omega (arith, c.if-file-gt-LENGTH_LIMIT.false)) (sym c.in_ok-version.ensures) a.index.now a.width c.walk.ensures
