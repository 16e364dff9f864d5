use Rattle.bsii_text.proofs.RecordLaws.{prototype_not, prototype_step_law}
use Rattle.bsii_text.proofs.records.pass_prototype.Goals as goal

pub returns-in_err-next : goal.returns-in_err-next
returns-in_err-next c =
    let a = c.args in
    rw c.from_residual.ensures
    (prototype_not a.s.now a.at a.table.now a.rows a.id a.to c.in_err-next.ensures)

pub returns : goal.returns
returns c =
    let a = c.args in
    prototype_step_law a.s.now a.at a.table.now a.rows a.id a.to c.in_ok-next.ensures
