-- Where overlap_of answers that the longest lies inside, the store's answer is the position behind it (`stored_inside`); else five pieces are one write.
use Prim.Native.Nat.{◌+◌}
use mathlib.Core.Path.{sym}
use native.Mathlib.Omega.{arith}
use lib.ListN.{length}
use Rattle.bsii_window.proofs.Laws.{then, being}
use Rattle.bsii_window.proofs.Stores.{stored_inside}
use Rattle.bsii_opening.proofs.LineLaws.{index_text}
use Rattle.bsii_opening.proofs.openings.IndexedLabel.put_opening.Goals as goal

pub returns-in-Inside : goal.returns-in-Inside
returns-in-Inside c = stored_inside (length c.args.name.now + 26) c.in-Inside.is c.overlap_of-place.ensures c.store_opening.ensures.0 c.store_opening.ensures.1 (omega arith)

pub returns : goal.returns
returns c =
    rw (sym c.from.ensures)
    (being (index_text c.args.name.now c.from.result)
    (then (then (then (then c.put_all-next.ensures c.put_all-end.ensures) c.put-open.ensures) c.write_decimal-close.ensures) c.put_all.ensures))
