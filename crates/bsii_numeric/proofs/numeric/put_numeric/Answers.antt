-- The 201 bytes are room for any text, and as many of them as are stored, read back, are the text.
use mathlib.Core.Path.{sym}
use native.Mathlib.Omega.{arith}
use lib.Seq.{length-take-le}
use Rattle.bsii_window.proofs.Laws.{being, same}
use Rattle.bsii_window.proofs.Stores.{stored_back}
use Rattle.bsii_numeric.proofs.numeric.put_numeric.Goals as goal

pub slice_bounds-put_all-end : goal.slice_bounds-put_all-end
slice_bounds-put_all-end c =
    let store_numeric = c.store_numeric-count in
    sym (length-take-le store_numeric.result store_numeric.new.out (omega (arith, store_numeric.ensures)))

pub returns : goal.returns
returns c =
    let store_numeric = c.store_numeric-count in
    let put = c.put_all.ensures in
    record { writes = λ e n t h x g. being (stored_back (store_numeric.ensures.stores e n t h x g) (omega (arith, store_numeric.ensures))) put; size = same put }
