use mathlib.Core.Path.{sym, ◌∙◌}
use native.Mathlib.Omega.{arith}
use lib.ListN.{drop}
use Rattle.bsii_string.proofs.Passed.{passed_on}
use Rattle.bsii_index_field.proofs.Heads.{mark_short, mark_not, mark_one}
use Rattle.bsii_index_field.proofs.prototypes.marked_head.Goals as goal

pub returns-in_err-m : goal.returns-in_err-m
returns-in_err-m c =
    let a = c.args in
    rw (passed_on c.from_residual.ensures.1) (mark_short a.at (drop a.at a.s.now) a.block (sym c.in_err-m.ensures))

pub returns-then-m-ne1 : goal.returns-then-m-ne1
returns-then-m-ne1 c =
    let a = c.args in
    rw c.stranger.ensures (mark_not a.at (drop a.at a.s.now) a.block (sym c.in_ok-m.ensures) (λ x. omega (arith, x)))

pub returns : goal.returns
returns c =
    let a = c.args in
    c.named_head.ensures ∙ mark_one a.at (drop a.at a.s.now) a.block (sym c.in_ok-m.ensures) (omega arith)
