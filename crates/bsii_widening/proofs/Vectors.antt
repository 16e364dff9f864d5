-- The block of an array of three f32 and a single four f32 meets the premises, in a save that has only defined them: all of it is computed.
use mathlib.Core.Path.{◌≡◌, refl}
use mathlib.Core.List.{[]}
use lib.ListN.{replicate}
use lib.Dec.{lit≤}
use Rattle.bsii_format.specs.File.{length_limit}
use Rattle.bsii_format.specs.Text.{value_text}
use Rattle.bsii_format.specs.Calls.{Converted}
use Rattle.bsii_format.specs.WorkedCalls.{vectors_file, vectors_text}
use Rattle.bsii_widening.specs.Insertions.{AllAllowed}
use Rattle.bsii_widening.specs.Marks.{mark_records}
use Rattle.bsii_widening.specs.Claim.{OldSave, Room, StillConverts, new_text, widened, new_file}
use Rattle.bsii_widening.specs.Vectors.{defined_file, defined_save, first_block}
use Rattle.bsii_widening.proofs.Computes.{computes_all}
use Rattle.bsii_widening.proofs.Decided.{allowed_proves}
use Rattle.bsii_widening.proofs.Demand3.{demand3}

abbrev old_made : Converted
old_made = record { size = 13; steps = 2 }

old_save : OldSave 3 defined_file (replicate 13 0) defined_save 49 [] old_made
unfolding computes_all
old_save = record { reads = refl; converts = refl; once = (tt, tt) }

allowed : AllAllowed defined_save.header.value first_block (mark_records defined_save.records)
unfolding computes_all
allowed = allowed_proves defined_save.header.value first_block (mark_records defined_save.records) tt

room : Room length_limit 3 defined_save [] (widened defined_save first_block)
unfolding computes_all
room = record { file = lit≤ tt; table = lit≤ tt }

pub vectors_convert : StillConverts 3 defined_file (replicate 13 0) defined_save [] old_made 3 (widened defined_save first_block)
vectors_convert = (demand3 3 defined_file (replicate 13 0) defined_save 49 [] old_made old_save first_block allowed 3).1 room

-- the new save is the worked one, and has its text
pub vectors_added : (new_file defined_save [] (widened defined_save first_block) ≡ vectors_file) × (new_text value_text (widened defined_save first_block) ≡ vectors_text)
unfolding computes_all
vectors_added = (refl, refl)
