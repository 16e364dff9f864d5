-- `heads::defining_parser`: The law of the arm that was taken.
use mathlib.Core.Path.{sym}
use lib.ListN.{drop}
use Rattle.bsii_string.proofs.Passed.{passed_on}
use Rattle.bsii_prototype.proofs.Beginnings.{defining_short, defining_cut, defining_whole}
use Rattle.bsii_prototype.proofs.heads.defining_parser.Goals as goal

pub returns-in_err-id : goal.returns-in_err-id
returns-in_err-id c =
    let a = c.args in
    rw (passed_on c.from_residual.ensures.1) (sym (defining_short a.at (drop a.at a.s.now) (sym c.in_err-id.ensures)))

pub returns-in_err-name : goal.returns-in_err-name
returns-in_err-name c =
    let a = c.args in
    rw (passed_on c.from_residual-in_err-name.ensures.1) (sym (defining_cut a.at (drop a.at a.s.now) (sym c.in_ok-id.ensures) (sym c.in_err-name.ensures)))

pub returns : goal.returns
returns c =
    let a = c.args in
    sym (defining_whole a.at (drop a.at a.s.now) (sym c.in_ok-id.ensures) (sym c.in_ok-name.ensures))
