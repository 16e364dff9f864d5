use Rattle.bsii_string.proofs.Passed.{passed_on}
use Rattle.bsii_index_field.proofs.Definitions.{no_head, no_list, listed}
use Rattle.bsii_index_field.proofs.prototypes.prototype_parser.Goals as goal

pub returns-in_err-head : goal.returns-in_err-head
returns-in_err-head c =
    let a = c.args in
    rw (passed_on c.from_residual.ensures.1) (no_head a.s.now a.at a.block c.in_err-head.ensures)

pub returns-in_err-fields_parser : goal.returns-in_err-fields_parser
returns-in_err-fields_parser c =
    let a = c.args in
    rw (passed_on c.from_residual-in_err-fields_parser.ensures.1) (no_list a.s.now a.at a.block c.in_ok-head.ensures c.in_err-fields_parser.ensures)

pub returns : goal.returns
returns c =
    let a = c.args in
    listed a.s.now a.at a.block c.in_ok-head.ensures c.in_ok-fields_parser.ensures
