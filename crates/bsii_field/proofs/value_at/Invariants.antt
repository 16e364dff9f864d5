-- `value_at`: Invariant: of the values under the definitions, `passed` are passed, and the others stand from here on. Measure: what is left of the
-- file behind the definitions passed.
use Prim.Native.Nat.{◌-◌, ◌≤◌}
use lib.ListN.{length}
use Rattle.bsii_field.proofs.Values.{Going}
use Rattle.bsii_field.proofs.value_at.Given as goal

abbrev pub invariant-loop-found : goal.invariant-loop-found
invariant-loop-found l = (l.passed ≤ l.index) × Going l.version l.s l.fields l.start l.index l.field l.at l.passed

abbrev pub decreases-loop-found : goal.decreases-loop-found
decreases-loop-found l = length l.s - l.field
