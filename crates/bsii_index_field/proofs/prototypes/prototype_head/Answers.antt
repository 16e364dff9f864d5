use mathlib.Core.Path.{sym, ◌∙◌}
use lib.ListN.{drop}
use Rattle.bsii_string.proofs.Passed.{passed_on}
use Rattle.bsii_index_field.proofs.Heads.{zero_short, zero_not, zero_on}
use Rattle.bsii_index_field.proofs.prototypes.prototype_head.Goals as goal

pub returns-in_err-n : goal.returns-in_err-n
returns-in_err-n c =
    let a = c.args in
    rw (passed_on c.from_residual.ensures.1) (zero_short a.at (drop a.at a.s.now) a.block (sym c.in_err-n.ensures))

pub returns-then-n-ne0 : goal.returns-then-n-ne0
returns-then-n-ne0 c =
    let a = c.args in
    rw c.stranger.ensures (zero_not a.at (drop a.at a.s.now) a.block (sym c.in_ok-n.ensures) c.if-n-ne0.true)

pub returns : goal.returns
returns c =
    let a = c.args in
    c.marked_head.ensures ∙ zero_on a.at (drop a.at a.s.now) a.block (sym c.in_ok-n.ensures) c.if-n-ne0.false
