use mathlib.Core.Path.{sym}
use lib.ListN.{drop}
use Rattle.bsii_format.proofs.Parsers.{str_exact}
use Rattle.bsii_string.proofs.Ends.{next_ok, fault_at_law}
use Rattle.bsii_string.proofs.Passed.{passed_on}
use Rattle.bsii_index_field.proofs.Heads.{named_short, named_cut, named_whole}
use Rattle.bsii_index_field.proofs.prototypes.named_head.Goals as goal

pub returns-in_err-id : goal.returns-in_err-id
returns-in_err-id c =
    let a = c.args in
    rw (passed_on c.from_residual.ensures.1) (named_short a.at (drop a.at a.s.now) (sym c.in_err-id.ensures))

pub returns-in_err-fields : goal.returns-in_err-fields
returns-in_err-fields c =
    let a = c.args in
    rw (passed_on c.from_residual-in_err-fields.ensures.1)
    (named_cut a.at (drop a.at a.s.now) (sym c.in_ok-id.ensures) (fault_at_law _ c.in_err-fields.ensures))

pub returns : goal.returns
returns c =
    let a = c.args in
    named_whole a.at (drop a.at a.s.now) (sym c.in_ok-id.ensures) (next_ok str_exact a.s.now _ c.in_ok-fields.ensures).1
