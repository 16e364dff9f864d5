-- `cursor::next_block`: Invariant: the records passed are prototypes, which the table has in force, so the blocks from here on are all of them. Measure:
-- what is left of the file, since a record has a byte at least.
use Prim.Native.Nat.{◌-◌}
use lib.ListN.{length}
use Rattle.bsii_walk.proofs.Loops.{Over, Same}
use Rattle.bsii_walk.proofs.cursor.next_block.Given as goal

abbrev pub invariant-loop-next : goal.invariant-loop-next
invariant-loop-next l = Over l.version l.s l.start l.initial.table l.rows l.at l.table Same

abbrev pub decreases-loop-next : goal.decreases-loop-next
decreases-loop-next l = length l.s - l.at
