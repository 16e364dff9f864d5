-- `heads::marked_parser`: The law of the arm that was taken.
use mathlib.Core.Path.{sym, ap, ◌∙◌}
use native.Mathlib.Omega.{arith}
use lib.ListN.{drop}
use Rattle.bsii_format.specs.Reader.{success}
use Rattle.bsii_format.specs.File.{mark_parser}
use Rattle.bsii_string.proofs.Passed.{passed_on}
use Rattle.bsii_prototype.proofs.Beginnings.{marked_short, marked, marked_bad}
use Rattle.bsii_prototype.proofs.heads.marked_parser.Goals as goal

pub returns-in-0 : goal.returns-in-0
unfolding mark_parser success
returns-in-0 c =
    let a = c.args in
    let e = sym c.in_ok-mark.ensures in
    let n = c.in_ok-mark.next in
    sym (marked a.at (drop a.at a.s.now) e (omega arith) ∙ ap (λ m. mark_parser m n (drop n a.s.now)) c.in-0.is)

pub returns-in-1 : goal.returns-in-1
returns-in-1 c =
    let a = c.args in
    let e = sym c.in_ok-mark.ensures in
    let n = c.in_ok-mark.next in
    c.defining_parser.ensures ∙ sym (marked a.at (drop a.at a.s.now) e (omega arith) ∙ ap (λ m. mark_parser m n (drop n a.s.now)) c.in-1.is)

pub returns-in_err-mark : goal.returns-in_err-mark
returns-in_err-mark c =
    let a = c.args in
    rw (passed_on c.from_residual.ensures.1) (sym (marked_short a.at (drop a.at a.s.now) (sym c.in_err-mark.ensures)))

pub returns-in_default : goal.returns-in_default
returns-in_default c =
    let a = c.args in
    let e = sym c.in_ok-mark.ensures in
    rw c.refused.ensures (sym (marked_bad a.at (drop a.at a.s.now) e (omega arith)))
