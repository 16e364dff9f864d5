-- The place is that of thirteen bytes, the most that the text has: inside there is room to store it, past the end its length alone counts, and across an edge it
-- is put from where it was stored.
use mathlib.Core.Path.{sym}
use native.Mathlib.Omega.{arith}
use lib.Seq.{length-take-le}
use Rattle.bsii_window.proofs.Stores.{stored_inside}
use Rattle.bsii_window.proofs.Laws.{past_by, starts}
use Rattle.bsii_write_word.proofs.WordLaws.{put_stored}
use Rattle.bsii_write_word.proofs.words.write_encoded_string.Goals as goal

pub returns-in-Past : goal.returns-in-Past
returns-in-Past c = past_by 13 c.in-Past.is c.overlap_of-place.ensures c.encoded_length.ensures c.further.ensures (omega arith)

pub slice_bounds-put_all-end : goal.slice_bounds-put_all-end
slice_bounds-put_all-end c = let f = c.store_encoded-end in sym (length-take-le f.result f.new.out (omega arith))

pub returns-in-Across : goal.returns-in-Across
returns-in-Across c = let f = c.store_encoded-end in put_stored f.ensures.0 f.ensures.1 c.put_all.ensures

pub store_encoded-end-requires-in-Inside : goal.store_encoded-end-requires-in-Inside
store_encoded-end-requires-in-Inside c = (starts 13 c.in-Inside.is c.overlap_of-place.ensures).1

pub overflow_add-result : goal.overflow_add-result
overflow_add-result c = omega (arith, c.store_encoded-end-in-Inside.ensures.1, (starts 13 c.in-Inside.is c.overlap_of-place.ensures).1)

pub returns-in-Inside : goal.returns-in-Inside
returns-in-Inside c = let f = c.store_encoded-end-in-Inside in stored_inside 13 c.in-Inside.is c.overlap_of-place.ensures f.ensures.0 f.ensures.1 (omega arith)
