-- Four pieces one behind the other are their concatenation, and that is block_opening of the name and of the id that has these bytes; inside the window by
-- stores, with room for the longest, else by writes.
use native.Mathlib.Omega.{arith}
use Rattle.bsii_opening.proofs.BlockLaws.{opened, opened_inside}
use Rattle.bsii_opening.proofs.blocks.write_opening.Goals as goal

pub returns-in-Inside : goal.returns-in-Inside
returns-in-Inside c =
    opened_inside _ c.in-Inside.is c.overlap_of-place.ensures c.store_name-a.ensures c.store_text-b.ensures c.store_id-c.ensures c.store_text.ensures
    (omega (arith, c.store_name-a.ensures.next, c.store_text-b.ensures.next, c.store_id-c.ensures.most, c.store_text.ensures.next)) (omega arith)

pub returns : goal.returns
returns c = opened c.put_all-a.ensures c.put_all-b.ensures c.write_id-c.ensures c.put_all.ensures
