-- read_field answers as the call does, with a part inside the file: so the slice is taken of bytes that are there, and where it refuses the part is
-- empty. Clearing leaves as many zeros as the table has words, since no call changes its length.
use mathlib.Core.Path.{refl, ◌∙◌}
use Rattle.bsii_file_field.proofs.Parts.{part_none, part_is}
use Rattle.bsii_file_field.proofs.fields.field_part.Goals as goal

pub returns-in_default-clause-part : goal.returns-in_default-clause-part
returns-in_default-clause-part c = part_none c.args.file.now c.in_default.ensures.reply

pub bytes-requires : goal.bytes-requires
bytes-requires c = c.in-Ok.ensures.inside _ refl

pub returns-clause-part : goal.returns-clause-part
returns-clause-part c = c.bytes.ensures ∙ part_is c.args.file.now c.in-Ok.ensures.reply
