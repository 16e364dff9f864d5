-- `binary_search` meets its contract. The loop's invariant: the rows in front of `low` have lesser ids, those from `high` on greater ones.
use Prim.Native.Nat.{◌-◌}
use Rattle.bsii_table.proofs.Search.{Bracket}
use Rattle.bsii_table.proofs.binary_search.Given as goal

abbrev pub invariant-loop-low : goal.invariant-loop-low
invariant-loop-low l = Bracket l.table l.rows l.id l.low l.high

abbrev pub decreases-loop-low : goal.decreases-loop-low
decreases-loop-low l = l.high - l.low
