-- The list with every listed type meets the premises, so the save still converts, and the old value is found where the block stands now: all of it is
-- computed.
use mathlib.Core.Path.{◌≡◌, refl}
use mathlib.Core.List.{List, [], ◌++◌}
use lib.ListN.{replicate}
use lib.Dec.{lit≤}
use Rattle.bsii_format.specs.Ascii.{ascii}
use Rattle.bsii_format.specs.Replies.{gives}
use Rattle.bsii_format.specs.Calls.{field_call, FieldAnswer}
use Rattle.bsii_format.specs.File.{length_limit}
use Rattle.bsii_format.specs.Worked.{u32, worked_file}
use Rattle.bsii_widening.specs.Insertions.{Insertion, AllAllowed}
use Rattle.bsii_widening.specs.Marks.{mark_records}
use Rattle.bsii_widening.specs.Parts.{renumber}
use Rattle.bsii_widening.specs.Claim.{Room, StillConverts, widened, new_file}
use Rattle.bsii_widening.specs.Written.{made_all}
use Rattle.bsii_widening.specs.EveryType.{every_field, every_record}
use Rattle.bsii_widening.specs.Example.{old_file, old_made}
use Rattle.bsii_widening.proofs.Computes.{computes_all}
use Rattle.bsii_widening.proofs.Decided.{allowed_proves}
use Rattle.bsii_widening.proofs.Demand3.{demand3}
use Rattle.bsii_widening.proofs.Example.{old_save}

abbrev pub every_type : List Insertion
every_type = made_all 2 (every_field 2 ++ every_record 2) (mark_records old_file.records)

pub every_type_law : AllAllowed old_file.header.value every_type (mark_records old_file.records)
unfolding computes_all
every_type_law = allowed_proves old_file.header.value every_type (mark_records old_file.records) tt

every_room : Room length_limit 6 old_file [] (widened old_file every_type)
unfolding computes_all
every_room = record { file = lit≤ tt; table = lit≤ tt }

pub every_converts : StillConverts 768 worked_file (replicate 128 0) old_file [] old_made 6 (widened old_file every_type)
every_converts = (demand3 768 worked_file (replicate 128 0) old_file 82 [] old_made old_save every_type every_type_law 6).1 every_room

-- the inserted block stands in front of the old one, which is number 1 now
pub every_number : renumber (widened old_file every_type) 0 ≡ 1
unfolding computes_all
every_number = refl

pub every_km : (b : FieldAnswer) × (field_call 6 (new_file old_file [] (widened old_file every_type)) 1 (ascii "km") ≡ gives b) × (b.type_id ≡ 0x27) × (b.bytes ≡ u32 300)
unfolding computes_all
every_km = (_, refl, refl, refl)
