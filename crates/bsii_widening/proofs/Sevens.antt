-- The list into a save of version 1 meets the premises, so the save still converts, and its own placement is found where it stands then: all of it is
-- computed. A placement of eight f32 is not well-formed there, so the premise is not met.
use mathlib.Core.Path.{◌≡◌, refl}
use mathlib.Core.Bool.{false}
use mathlib.Core.List.{[]}
use lib.ListN.{replicate}
use lib.Dec.{lit≤}
use Rattle.bsii_format.specs.Ascii.{ascii}
use Rattle.bsii_format.specs.File.{length_limit}
use Rattle.bsii_format.specs.Text.{value_text}
use Rattle.bsii_format.specs.Calls.{field_call, Converted}
use Rattle.bsii_format.specs.WorkedCalls.{carries, seven_part, seven_file}
use Rattle.bsii_widening.specs.Insertions.{AllAllowed}
use Rattle.bsii_widening.specs.Marks.{mark_records}
use Rattle.bsii_widening.specs.Parts.{renumber}
use Rattle.bsii_widening.specs.Claim.{OldSave, Room, StillConverts, new_text, widened, new_file}
use Rattle.bsii_widening.specs.Sevens.{seven_save, sevens, widened_text, eight}
use Rattle.bsii_widening.proofs.Computes.{computes_all}
use Rattle.bsii_widening.proofs.Decided.{allowed, allowed_proves}
use Rattle.bsii_widening.proofs.Demand3.{demand3}

abbrev old_made : Converted
old_made = record { size = 73; steps = 4 }

old_save : OldSave 3 (seven_file 1) (replicate 73 0) seven_save 73 [] old_made
unfolding computes_all
old_save = record { reads = refl; converts = refl; once = (tt, tt) }

sevens_allowed : AllAllowed seven_save.header.value sevens (mark_records seven_save.records)
unfolding computes_all
sevens_allowed = allowed_proves seven_save.header.value sevens (mark_records seven_save.records) tt

room : Room length_limit 6 seven_save [] (widened seven_save sevens)
unfolding computes_all
room = record { file = lit≤ tt; table = lit≤ tt }

pub sevens_convert : StillConverts 3 (seven_file 1) (replicate 73 0) seven_save [] old_made 6 (widened seven_save sevens)
sevens_convert = (demand3 3 (seven_file 1) (replicate 73 0) seven_save 73 [] old_made old_save sevens sevens_allowed 6).1 room

pub sevens_text_law : new_text value_text (widened seven_save sevens) ≡ widened_text
unfolding computes_all
sevens_text_law = refl

-- the placement of the old block, which is number 1 there, was found at 40
pub seven_found : field_call 6 (new_file seven_save [] (widened seven_save sevens)) (renumber (widened seven_save sevens) 0) (ascii "w") ≡ carries 0x19 169 seven_part
unfolding computes_all
seven_found = refl

pub eight_not_allowed : allowed seven_save.header.value eight (mark_records seven_save.records) ≡ false
unfolding computes_all
eight_not_allowed = refl
