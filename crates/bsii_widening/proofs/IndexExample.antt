-- The worked list meets the premises, and `km` is found by the old index and by the new one; a save without a text meets them too. All of it is computed.
use mathlib.Core.Path.{◌≡◌, refl}
use Prim.Native.Nat.{ℕ}
use mathlib.Core.List.{List, [], ◌∷◌}
use lib.ListN.{replicate}
use lib.Dec.{lit≤}
use Rattle.bsii_format.specs.Ascii.{ascii}
use Rattle.bsii_format.specs.Replies.{refusal, unlisted_type, enum_value}
use Rattle.bsii_format.specs.File.{length_limit}
use Rattle.bsii_format.specs.Calls.{text_call}
use Rattle.bsii_format.specs.Worked.{u32, worked_file}
use Rattle.bsii_format.specs.WorkedCalls.{unlisted_enum_file, carries, unwritten}
use Rattle.bsii_derived.specs.IndexCalls.{write_index_call, index_field_call}
use Rattle.bsii_derived.specs.WorkedIndex.{indexed}
use Rattle.bsii_derived.proofs.Computes.{computes_index}
use Rattle.bsii_widening.specs.Parts.{renumber}
use Rattle.bsii_widening.specs.Claim.{Room, widened, new_file}
use Rattle.bsii_widening.specs.Observers.{Old}
use Rattle.bsii_widening.specs.Example.{old_file, additions, unlisted_field, any_bytes, after_unlisted}
use Rattle.bsii_widening.specs.Indexed.{StillIndexed}
use Rattle.bsii_widening.specs.IndexExample.{old_index, new_index, textless}
use Rattle.bsii_widening.proofs.Computes.{computes_all}
use Rattle.bsii_widening.proofs.Example.{additions_allowed, room, last_allowed, last_room, carried}
use Rattle.bsii_widening.proofs.Indexed.{index_survives, own_index_survives}

old_read : Old 768 worked_file old_file 82 []
unfolding computes_all
old_read = record { reads = refl; once = (tt, tt) }

pub additions_indexed : StillIndexed 3 768 worked_file old_file [] 6 (widened old_file additions)
additions_indexed = (own_index_survives 768 worked_file old_file 82 [] old_read additions additions_allowed 6).0 room

-- through numbers of one byte too: the new file has fewer than 256
small_room : Room 256 6 old_file [] (widened old_file additions)
unfolding computes_all
small_room = record { file = lit≤ tt; table = lit≤ tt }

pub additions_by_one : StillIndexed 1 768 worked_file old_file [] 6 (widened old_file additions)
additions_by_one = (index_survives 1 256 (lit≤ tt) (lit≤ tt) 768 worked_file old_file 82 [] old_read additions additions_allowed 6).0 small_room

pub old_index_law : write_index_call 3 768 worked_file (replicate 12 1) ≡ indexed old_index []
unfolding computes_all computes_index old_index
old_index_law = refl

pub new_index_law : write_index_call 3 6 (new_file old_file [] (widened old_file additions)) (replicate 25 1) ≡ indexed new_index (1 ∷ [])
unfolding computes_all computes_index new_index
new_index_law = refl

pub km_by_old : index_field_call 3 worked_file old_index 0 (ascii "km") ≡ carries 0x27 61 (u32 300)
unfolding computes_all computes_index old_index
km_by_old = refl

pub km_by_new : index_field_call 3 (new_file old_file [] (widened old_file additions)) new_index (renumber (widened old_file additions) 0) (ascii "km") ≡ carries 0x27 113 (u32 300)
unfolding computes_all computes_index new_index
km_by_new = refl

-- ---- the last definition, whose first value starts at 122

pub unlisted_index : (space : List ℕ) → write_index_call 3 6 (new_file old_file [] after_unlisted) space ≡ unwritten unlisted_type 122 0 space
unfolding computes_all
unlisted_index = ((own_index_survives 768 worked_file old_file 82 [] old_read additions additions_allowed 6).1 7 0 unlisted_field any_bytes last_allowed refl last_room).write_stops 122 carried

-- ---- a save without a text

pub textless_text : (text_call 3 unlisted_enum_file []).reply ≡ refusal enum_value 65
unfolding computes_all unlisted_enum_file
textless_text = refl

textless_read : Old 3 unlisted_enum_file textless 86 []
unfolding computes_all unlisted_enum_file textless
textless_read = record { reads = refl; once = (tt, tt) }

textless_room : Room length_limit 3 textless [] (widened textless [])
unfolding computes_all unlisted_enum_file textless
textless_room = record { file = lit≤ tt; table = lit≤ tt }

pub textless_indexed : StillIndexed 3 3 unlisted_enum_file textless [] 3 (widened textless [])
textless_indexed = (own_index_survives 3 unlisted_enum_file textless 86 [] textless_read [] tt 3).0 textless_room
