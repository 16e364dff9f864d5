-- `seek::seek`: Invariant: the search among all blocks is the one among those from here on, with as many still to be passed over. Measure: what is
-- left of the file, since a block has a byte at least.
use Prim.Native.Nat.{◌-◌, ◌≤◌}
use lib.ListN.{length}
use Rattle.std.specs.Option.{option_copied}
use Rattle.bsii_walk.proofs.Loops.{Over}
use Rattle.bsii_walk.proofs.Searching.{Asked}
use Rattle.bsii_walk.proofs.seek.seek.Given as goal

abbrev pub invariant-loop-block : goal.invariant-loop-block
invariant-loop-block l = Over l.version l.s l.start l.initial.table l.rows l.at l.table (Asked (option_copied l.name) l.k l.number l.left) × (l.number ≤ l.at)

abbrev pub decreases-loop-block : goal.decreases-loop-block
decreases-loop-block l = length l.s - l.at
