use mathlib.Core.Path.{sym}
use Rattle.bsii_string.proofs.Passed.{passed_on}
use Rattle.bsii_index_field.proofs.Looks.{look_long, look_absent, look_short, looked}
use Rattle.bsii_index_field.proofs.look_up.Goals as goal

pub returns-then-file-gt-LENGTH_LIMIT : goal.returns-then-file-gt-LENGTH_LIMIT
returns-then-file-gt-LENGTH_LIMIT c = rw c.refused.ensures (look_long c.if-file-gt-LENGTH_LIMIT.true)

pub returns-in_default : goal.returns-in_default
returns-in_default c = rw c.refused-in_default.ensures (look_absent c.if-file-gt-LENGTH_LIMIT.false c.in_default.ensures)

pub returns-in_err-version : goal.returns-in_err-version
returns-in_err-version c =
    rw (passed_on c.from_residual.ensures.1) (look_short c.if-file-gt-LENGTH_LIMIT.false c.in-Some.ensures (sym c.in_err-version.ensures))

pub returns : goal.returns
returns c = looked c.if-file-gt-LENGTH_LIMIT.false c.in-Some.ensures (sym c.in_ok-version.ensures) c.look.ensures
