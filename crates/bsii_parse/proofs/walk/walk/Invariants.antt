-- Invariant: the records from `start` on are those passed so far and those from here on, the table keeps their definitions, and `agreed` is how many of
-- the index records of those passed stand at the front of the index. Measure: what is left of the file, since a record has a byte at least.
use Prim.Native.Nat.{◌-◌}
use lib.ListN.{length}
use Rattle.bsii_parse.proofs.Comparing.{Comparing}
use Rattle.bsii_parse.proofs.walk.walk.Given as goal

abbrev pub invariant-loop-next : goal.invariant-loop-next
invariant-loop-next l = Comparing l.checked.version l.s l.start l.initial.table l.index l.width l.p l.table l.agreed

abbrev pub decreases-loop-next : goal.decreases-loop-next
decreases-loop-next l = length l.s - l.p.at
