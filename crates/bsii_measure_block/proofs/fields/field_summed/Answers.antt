-- An enum value is for enum_summed; every other value has the text that value_measured measures, whatever the enum list.
use native.Mathlib.Omega.{arith}
use Rattle.bsii_string.proofs.Passed.{passed_on}
use Rattle.bsii_measure_block.proofs.FieldLaws.{field_fault, field_fits, field_next}
use Rattle.bsii_measure_block.proofs.fields.field_summed.Goals as goal

pub returns-then-d-eq55 : goal.returns-then-d-eq55
returns-then-d-eq55 c = c.enum_summed.ensures.in_version c.args.version

pub returns-in_err-value : goal.returns-in_err-value
returns-in_err-value c = rw (passed_on c.from_residual.ensures.1) (field_fault c.args.d c.in_err-value.ensures)

pub overflow_add-result : goal.overflow_add-result
overflow_add-result c = omega (arith, c.requires.0.short, field_fits c.args.d c.in_ok-value.ensures c.requires.0)

pub returns : goal.returns
returns c = field_next c.args.d c.in_ok-value.ensures c.requires.0 c.if-d-eq55.false c.requires.1
