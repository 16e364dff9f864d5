use Rattle.bsii_file_field.proofs.FieldCalls.{placed_absent, placed_value, placed_room}
use Rattle.bsii_file_field.proofs.fields.placed.Goals as goal

pub returns-in_default : goal.returns-in_default
returns-in_default c = rw c.refused.ensures (placed_absent c.in_default.ensures)

pub overflow_sub-result : goal.overflow_sub-result
overflow_sub-result c = placed_room c.in-Some.ensures

pub returns : goal.returns
returns c = placed_value c.in-Some.ensures
