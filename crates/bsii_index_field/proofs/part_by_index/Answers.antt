use mathlib.Core.Path.{refl, ◌∙◌}
use Rattle.bsii_file_field.proofs.Parts.{part_none, part_is}
use Rattle.bsii_index_field.proofs.part_by_index.Goals as goal

pub returns-in_default : goal.returns-in_default
returns-in_default c = record { part = part_none c.args.file.now c.in_default.ensures.reply }

pub bytes-requires : goal.bytes-requires
bytes-requires c = c.in-Ok.ensures.inside _ refl

pub returns : goal.returns
returns c = record { part = c.bytes.ensures ∙ part_is c.args.file.now c.in-Ok.ensures.reply }
