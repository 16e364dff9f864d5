-- The block was accepted, so both definitions and its id end where the unchecked readers say: the index found among the last definition's names
-- is that of the value which value_at passes to under the definition in force.
use mathlib.Core.Path.{refl, sym, ◌∙◌}
use Rattle.bsii_walk.proofs.Answered.{ok_some, ok_none}
use Rattle.bsii_file_field.proofs.FieldCalls.{named_fault, under_fault, id_fault, field_absent, field_value}
use Rattle.bsii_file_field.proofs.fields.field_found.Goals as goal

pub returns-in_err-named : goal.returns-in_err-named
returns-in_err-named c =
    rw c.from_residual.ensures (named_fault (sym (ok_none c.fields_at.result c.in_err-named.ensures.value).1 ∙ c.fields_at.ensures))

pub returns-in_err-index : goal.returns-in_err-index
returns-in_err-index c =
    rw c.from_residual-in_err-index.ensures
    (field_absent (sym (ok_some c.fields_at.result c.in_ok-named.ensures.value) ∙ c.fields_at.ensures) c.in_err-index.ensures refl)

pub returns-in_err-fields : goal.returns-in_err-fields
returns-in_err-fields c =
    rw c.from_residual-in_err-fields.ensures (under_fault (sym (ok_none c.fields_at-2.result c.in_err-fields.ensures.value).1 ∙ c.fields_at-2.ensures))

pub returns-in_err-start : goal.returns-in_err-start
returns-in_err-start c =
    rw c.from_residual-in_err-start.ensures (id_fault (sym (ok_none c.skip_id.result c.in_err-start.ensures.value).1 ∙ c.skip_id.ensures))

pub returns : goal.returns
returns c =
    field_value (sym (ok_some c.fields_at.result c.in_ok-named.ensures.value) ∙ c.fields_at.ensures) c.in_ok-index.ensures refl
    (sym (ok_some c.fields_at-2.result c.in_ok-fields.ensures.value) ∙ c.fields_at-2.ensures)
    (sym (ok_some c.skip_id.result c.in_ok-start.ensures.value) ∙ c.skip_id.ensures) c.value_at.ensures
