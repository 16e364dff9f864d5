use Rattle.bsii_string.proofs.Passed.{passed_on}
use Rattle.bsii_block.proofs.Values.{defined_fault, defined_id, defined_values}
use Rattle.bsii_block.proofs.block_end.Goals as goal

pub returns-in_err-fields : goal.returns-in_err-fields
returns-in_err-fields g c = defined_fault g.P.Parts.id (g.P.Parts.values c.args.version) c.in_err-fields.ensures _

pub returns-in_err-start : goal.returns-in_err-start
returns-in_err-start g c =
    rw (passed_on c.from_residual-in_err-start.ensures.1) (defined_id g.P.Parts.id (g.P.Parts.values c.args.version) c.in_err-start.ensures)

pub returns : goal.returns
returns g c = defined_values g.P.Parts.id (g.P.Parts.values c.args.version) g.met.P.Parts.id_exact c.in_ok-fields.ensures c.in_ok-start.ensures c.values_end.ensures
