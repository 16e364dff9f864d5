-- No accepted id has more than 2,033 bytes (`most_bytes`), so what is longer may be left unwritten. The place is that of the most that those bytes can take: inside
-- there is room to store the id, past the end its length alone counts, and across an edge it is put from where it was stored.
use Prim.Native.Nat.{◌+◌, ◌*◌}
use mathlib.Core.Path.{refl, sym}
use native.Mathlib.Omega.{arith}
use lib.Seq.{length-take-le}
use lib.ListN.{length}
use Rattle.bsii_window.proofs.Stores.{stored_inside}
use Rattle.bsii_window.proofs.Laws.{same, past_by, starts}
use Rattle.bsii_write_id.proofs.IdLaws.{most_bytes}
use Rattle.bsii_write_word.proofs.WordLaws.{put_stored}
use Rattle.bsii_write_id.proofs.ids.write_id.Goals as goal

pub returns-then-raw-gt2033 : goal.returns-then-raw-gt2033
returns-then-raw-gt2033 c = record { writes = λ i h. absurd (omega (arith, most_bytes c.args.raw.now (omega (arith, c.type_inv.raw 0)) i h)); size = refl }

pub returns-in-Past : goal.returns-in-Past
returns-in-Past c = record { writes = λ i h. past_by _ c.in-Past.is c.overlap_of-place.ensures (c.id_length.ensures.counts i h) c.further.ensures (omega arith); size = refl }

pub slice_bounds-put_all-end : goal.slice_bounds-put_all-end
slice_bounds-put_all-end c = let f = c.store_id-end in sym (length-take-le f.result f.new.out (omega (arith, f.ensures.most, f.ensures.size)))

pub returns-in-Across : goal.returns-in-Across
returns-in-Across c =
    let f = c.store_id-end in
    record { writes = λ i h. put_stored (f.ensures.stores i h) (omega (arith, f.ensures.most)) c.put_all.ensures; size = same c.put_all.ensures }

pub store_id-end-requires-in-Inside : goal.store_id-end-requires-in-Inside
store_id-end-requires-in-Inside c = omega (arith, (starts (29 + 2 * length c.args.raw.now) c.in-Inside.is c.overlap_of-place.ensures).1)

pub overflow_add-result : goal.overflow_add-result
overflow_add-result c =
    let n = 29 + 2 * length c.args.raw.now in
    omega (arith, c.store_id-end-in-Inside.ensures.most, (starts n c.in-Inside.is c.overlap_of-place.ensures).1)

pub returns-in-Inside : goal.returns-in-Inside
returns-in-Inside c =
    let f = c.store_id-end-in-Inside.ensures in
    let n = 29 + 2 * length c.args.raw.now in
    record { writes = λ i h. stored_inside n c.in-Inside.is c.overlap_of-place.ensures (f.stores i h) (omega (arith, f.most)) (omega arith); size = f.size }
