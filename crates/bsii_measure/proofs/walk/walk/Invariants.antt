-- Invariant: the records from `start` on are those passed so far and those from here on, the table keeps their definitions, and the tally is of those passed:
-- their text, their steps, the largest of their blocks. Measure: what is left of the file, since a record has a byte at least.
use Prim.Native.Nat.{◌-◌}
use lib.ListN.{length}
use Rattle.bsii_measure.proofs.WalkLaws.{Walking}
use Rattle.bsii_measure.proofs.walk.walk.Given as goal

abbrev pub invariant-loop-next : goal.invariant-loop-next
invariant-loop-next l = Walking l.version l.s l.start l.initial.table l.p l.tally l.table

abbrev pub decreases-loop-next : goal.decreases-loop-next
decreases-loop-next l = length l.s - l.p.at
