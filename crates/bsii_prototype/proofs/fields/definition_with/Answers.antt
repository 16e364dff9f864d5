-- `fields::definition_with`: The law of the arm that was taken. The name lies inside the file, so its start fits.
use native.Mathlib.Omega.{arith}
use Rattle.bsii_string.proofs.Passed.{passed_on}
use Rattle.bsii_prototype.proofs.Entries.{name_bad, name_fits, list_bad, field_whole}
use Rattle.bsii_prototype.proofs.fields.definition_with.Goals as goal

pub overflow_add-result : goal.overflow_add-result
overflow_add-result g c =
    let a = c.args in
    omega (arith, name_fits g.met.S.Strings.text a.s.now a.at a.type_id c.in_ok-name_end.ensures)

pub returns-in_err-name_end : goal.returns-in_err-name_end
returns-in_err-name_end g c =
    let a = c.args in
    rw (passed_on c.from_residual.ensures.1) (name_bad g.met.S.Strings.text a.s.now a.at a.type_id c.in_err-name_end.ensures)

pub returns-in_err-next : goal.returns-in_err-next
returns-in_err-next g c =
    let a = c.args in
    rw (passed_on c.from_residual-in_err-next.ensures.1) (list_bad g.met.S.Strings.text a.s.now a.at a.type_id c.in_ok-name_end.ensures c.in_err-next.ensures)

pub returns : goal.returns
returns g c =
    let a = c.args in
    field_whole g.met.S.Strings.text a.s.now a.at a.type_id c.in_ok-name_end.ensures c.in_ok-next.ensures
