use Rattle.bsii_string.proofs.Passed.{passed_on}
use Rattle.bsii_index_field.proofs.Values.{field_bad, field_absent, field_room, field_value}
use Rattle.bsii_index_field.proofs.blocks.block_field.Goals as goal

pub returns-in_err-values : goal.returns-in_err-values
returns-in_err-values c = rw (passed_on c.from_residual.ensures.1) (field_bad c.field_index-index.ensures c.in_err-values.ensures)

pub returns-in_default : goal.returns-in_default
returns-in_default c = rw c.refused.ensures (field_absent c.field_index-index.ensures c.in_ok-values.ensures c.in_default.is)

pub overflow_sub-result : goal.overflow_sub-result
overflow_sub-result c = field_room c.field_index-index.ensures c.in_ok-values.ensures c.in-Some.is

pub returns : goal.returns
returns c = field_value c.field_index-index.ensures c.in_ok-values.ensures c.in-Some.is
