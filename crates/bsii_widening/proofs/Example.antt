-- The worked list of insertions meets the premises of demand 3, and so does a last definition of an unlisted type: both directions of it. All of it
-- is computed.
use mathlib.Core.Path.{◌≡◌, refl}
use mathlib.Core.Option.{none, some}
use mathlib.Core.List.{[]}
use lib.ListN.{length, replicate}
use lib.Dec.{lit≤}
use Rattle.bsii_format.specs.Ascii.{ascii}
use Rattle.bsii_format.specs.Replies.{gives}
use Rattle.bsii_format.specs.Calls.{reading_call, field_call, steps_of}
use Rattle.bsii_format.specs.Worked.{u32, worked_file}
use Rattle.bsii_format.specs.File.{length_limit}
use Rattle.bsii_format.specs.Text.{value_text}
use Rattle.bsii_widening.specs.Insertions.{a_field, insert, AllAllowed, DefinitionAllowed}
use Rattle.bsii_widening.specs.Claim.{OldSave, Room, StillConverts, Refused, new_text, widened, new_save, new_file, first_carried}
use Rattle.bsii_widening.specs.Marks.{new_records, mark_records}
use Rattle.bsii_widening.specs.Parts.{renumber}
use Rattle.bsii_widening.specs.Example.{old_file, old_made, additions, additions_text, unlisted_field, any_bytes, after_unlisted, unused}
use Rattle.bsii_widening.proofs.Computes.{computes_all}
use Rattle.bsii_widening.proofs.Decided.{allowed_proves}
use Rattle.bsii_widening.proofs.Demand3.{demand3}

-- the worked file is an old save: it converts with 768 words and an output of 128 bytes
pub old_save : OldSave 768 worked_file (replicate 128 0) old_file 82 [] old_made
unfolding computes_all
old_save = record { reads = refl; converts = refl; once = (tt, tt) }

pub additions_allowed : AllAllowed old_file.header.value additions (mark_records old_file.records)
unfolding computes_all
additions_allowed = allowed_proves old_file.header.value additions (mark_records old_file.records) tt

pub room : Room length_limit 6 old_file [] (widened old_file additions)
unfolding computes_all
room = record { file = lit≤ tt; table = lit≤ tt }

-- so the theorem speaks of it, and the new text is what one expects
pub additions_convert : StillConverts 768 worked_file (replicate 128 0) old_file [] old_made 6 (widened old_file additions)
additions_convert = (demand3 768 worked_file (replicate 128 0) old_file 82 [] old_made old_save additions additions_allowed 6).1 room

pub additions_text_law : new_text value_text (widened old_file additions) ≡ additions_text
unfolding computes_all
additions_text_law = refl

-- two prototypes, two blocks with three values and one, the end record
pub additions_steps : steps_of (new_save old_file (widened old_file additions)) ≡ 9
unfolding computes_all
additions_steps = refl

-- `km` was found at 61, and is found at 113 with the same type and bytes
pub km_before : field_call 768 worked_file 0 (ascii "km") ≡ gives (record { type_id = 0x27; part = record { offset = 61; size = 4 }; bytes = u32 300 })
unfolding computes_all
km_before = refl

pub km_after : field_call 6 (new_file old_file [] (widened old_file additions)) (renumber (widened old_file additions) 0) (ascii "km")
    ≡ gives (record { type_id = 0x27; part = record { offset = 113; size = 4 }; bytes = u32 300 })
unfolding computes_all
km_after = refl

pub additions_read : reading_call 6 (new_file old_file [] (widened old_file additions)) ≡ gives (record { prototypes = 2; blocks = 2; next = 144 })
unfolding computes_all
additions_read = refl

-- ---- the last definition

pub last_allowed : DefinitionAllowed 7 0 unlisted_field (widened old_file additions)
unfolding computes_all
last_allowed = record { of = _; defined = refl; position = lit≤ tt; well_formed = refl; new_name = tt }

pub last_room : Room length_limit 6 old_file [] after_unlisted
unfolding computes_all
last_room = record { file = lit≤ tt; table = lit≤ tt }

-- the block of the id 7 carries it: its first value starts at 122
pub carried : first_carried 7 0 (length old_file.header.raw) (new_records after_unlisted) ≡ some 122
unfolding computes_all
carried = refl

pub unlisted_refused : Refused 6 122 (new_file old_file [] after_unlisted)
unfolding computes_all
unlisted_refused = ((demand3 768 worked_file (replicate 128 0) old_file 82 [] old_made old_save additions additions_allowed 6).2 7 0 unlisted_field any_bytes last_allowed refl last_room).carried 122 carried

-- in the prototype of a save without blocks of it, no block carries it, and all of the above holds
not_carried : first_carried 9 0 (length old_file.header.raw) (new_records (insert (a_field 9 0 unlisted_field any_bytes) (widened old_file unused))) ≡ none
unfolding computes_all
not_carried = refl

unused_allowed : AllAllowed old_file.header.value unused (mark_records old_file.records)
unfolding computes_all
unused_allowed = allowed_proves old_file.header.value unused (mark_records old_file.records) tt

last_allowed_9 : DefinitionAllowed 9 0 unlisted_field (widened old_file unused)
unfolding computes_all
last_allowed_9 = record { of = _; defined = refl; position = lit≤ tt; well_formed = refl; new_name = tt }

room_9 : Room length_limit 6 old_file [] (insert (a_field 9 0 unlisted_field any_bytes) (widened old_file unused))
unfolding computes_all
room_9 = record { file = lit≤ tt; table = lit≤ tt }

pub unlisted_unused : StillConverts 768 worked_file (replicate 128 0) old_file [] old_made 6 (insert (a_field 9 0 unlisted_field any_bytes) (widened old_file unused))
unfolding computes_all
unlisted_unused =
    ((demand3 768 worked_file (replicate 128 0) old_file 82 [] old_made old_save unused unused_allowed 6).2 9 0 unlisted_field any_bytes last_allowed_9 refl room_9).unused not_carried
