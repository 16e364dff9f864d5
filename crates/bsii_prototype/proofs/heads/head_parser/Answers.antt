-- `heads::head_parser`: The law of the arm that was taken.
use mathlib.Core.Path.{sym, ◌∙◌}
use lib.ListN.{drop}
use Rattle.bsii_string.proofs.Passed.{passed_on}
use Rattle.bsii_prototype.proofs.Beginnings.{head_short, head_marked, head_block}
use Rattle.bsii_prototype.proofs.heads.head_parser.Goals as goal

pub returns-then-id-eq0 : goal.returns-then-id-eq0
returns-then-id-eq0 c =
    let a = c.args in
    let e = sym c.in_ok-id.ensures in
    c.marked_parser.ensures ∙ sym (head_marked a.at (drop a.at a.s.now) e c.if-id-eq0.true)

pub returns-in_err-id : goal.returns-in_err-id
returns-in_err-id c =
    let a = c.args in
    rw (passed_on c.from_residual.ensures.1) (sym (head_short a.at (drop a.at a.s.now) (sym c.in_err-id.ensures)))

pub returns : goal.returns
returns c =
    let a = c.args in
    let e = sym c.in_ok-id.ensures in
    sym (head_block a.at (drop a.at a.s.now) e c.if-id-eq0.false)
