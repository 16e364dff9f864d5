-- Invariant: the values from here on under the definitions from here on end as all of them do, and `count` of them were
-- passed. Measure: what is left of the file behind the definitions passed, since each has a byte at least: so the count fits too.
use Prim.Native.Nat.{◌-◌}
use lib.ListN.{length}
use Rattle.bsii_block.proofs.Values.{InStep}
use Rattle.bsii_block.proofs.values_end.Given as goal

abbrev pub invariant-loop-type_id : goal.invariant-loop-type_id
invariant-loop-type_id g l = InStep (g.P.Parts.values l.version) l.s l.fields l.start l.field l.at l.count

abbrev pub decreases-loop-type_id : goal.decreases-loop-type_id
decreases-loop-type_id g l = length l.s - l.field
