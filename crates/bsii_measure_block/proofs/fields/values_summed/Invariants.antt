-- Invariant: the sum so far, and the values from here on under the definitions from here on, are the sum of all of them. Measure: what is left of the file
-- behind the definitions passed, since each has a byte at least.
use Prim.Native.Nat.{◌-◌}
use lib.ListN.{length}
use Rattle.bsii_measure_block.proofs.ValueLaws.{Adding}
use Rattle.bsii_measure_block.proofs.fields.values_summed.Given as goal

abbrev pub invariant-loop-found : goal.invariant-loop-found
invariant-loop-found l = Adding l.version l.s l.fields l.start l.initial.sum l.field l.at l.sum l.values

abbrev pub decreases-loop-found : goal.decreases-loop-found
decreases-loop-found l = length l.s - l.field
