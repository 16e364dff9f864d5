-- The law of the place that `overlap_of` answered for 201 bytes: past the end nothing is stored and the position moves on by the text's length, and inside,
-- what is stored is what is written.
use mathlib.Core.Path.{refl}
use native.Mathlib.Omega.{arith}
use Rattle.bsii_window.proofs.Laws.{starts, past_by}
use Rattle.bsii_window.proofs.Stores.{stored_inside}
use Rattle.bsii_numeric.proofs.numeric.write_numeric.Goals as goal

pub returns-in-Past : goal.returns-in-Past
returns-in-Past c =
    record {
      writes = λ e n t h x g.
          past_by 201 c.in-Past.is c.overlap_of-place.ensures (c.numeric_length.ensures.is e n t h x g) c.further.ensures (omega arith);
      size = refl;
    }

pub store_numeric-requires : goal.store_numeric-requires
store_numeric-requires c = (starts 201 c.in-Inside.is c.overlap_of-place.ensures).1

pub overflow_add-result : goal.overflow_add-result
overflow_add-result c = omega (arith, starts 201 c.in-Inside.is c.overlap_of-place.ensures, c.store_numeric.ensures.most)

pub returns-in-Inside : goal.returns-in-Inside
returns-in-Inside c =
    let stored = c.store_numeric.ensures in
    record {
      writes = λ e n t h x g. stored_inside 201 c.in-Inside.is c.overlap_of-place.ensures (stored.stores e n t h x g) stored.most (omega arith);
      size = stored.size;
    }
