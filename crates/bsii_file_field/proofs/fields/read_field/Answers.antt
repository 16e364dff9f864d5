-- As in read_block: the k-th block of the file that was read was found, and `placed` answers for that block; its part lies inside the file for
-- every input, and a refusal has no part.
use Rattle.bsii_string.proofs.Passed.{passed_on}
use Rattle.bsii_file_field.proofs.FieldCalls.{field_refused, field_answers}
use Rattle.bsii_file_field.proofs.fields.read_field.Goals as goal

pub returns-in_err-version : goal.returns-in_err-version
returns-in_err-version c = rw (passed_on c.from_residual.ensures.1) (field_refused c.in_err-version.ensures)

pub returns : goal.returns
returns c = field_answers c.in_ok-version.ensures c.placed.ensures
