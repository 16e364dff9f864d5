-- Where overlap_of answers that the text lies inside, the store's answer is the position behind it (`stored_inside`); else three pieces are one write.
use Prim.Native.Nat.{◌+◌}
use native.Mathlib.Omega.{arith}
use lib.ListN.{length}
use Rattle.bsii_window.proofs.Laws.{then}
use Rattle.bsii_window.proofs.Stores.{stored_inside}
use Rattle.bsii_opening.proofs.openings.PlainLabel.put_opening.Goals as goal

pub returns-in-Inside : goal.returns-in-Inside
returns-in-Inside c = stored_inside (length c.args.name.now + 4) c.in-Inside.is c.overlap_of-place.ensures c.store_opening.ensures.0 c.store_opening.ensures.1 (omega arith)

pub returns : goal.returns
returns c = then (then c.put_all-next.ensures c.put_all-end.ensures) c.put_all.ensures
