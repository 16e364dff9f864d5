-- What is stored from i on are the last groups, and those of what is left of the number stand in front of them: each turn moves one over.
use Prim.Native.Nat.{◌≤◌, ◌<◌}
use lib.ListN.{length}
use Rattle.bsii_format.specs.Text.{groups}
use Rattle.bsii_digits.proofs.Fills.{Filled}
use Rattle.bsii_write_id.proofs.ids.fill_groups.Given as goal

abbrev pub invariant-loop-rest : goal.invariant-loop-rest
invariant-loop-rest l = Filled l.initial.out l.end (groups 3 l.n) (groups 3 l.rest) l.i l.out × (length (groups 3 l.n) ≤ l.end) × (l.end ≤ length l.initial.out) × (l.rest < 0x1_0000_0000_0000_0000)

abbrev pub decreases-loop-rest : goal.decreases-loop-rest
decreases-loop-rest l = l.rest
