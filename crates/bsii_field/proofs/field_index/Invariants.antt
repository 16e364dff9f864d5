-- `field_index`: Outer invariant: of the definitions, `index` are passed, none of them of that name; measure: what is left of the file behind them.
-- Inner invariant: the first i bytes of the two names are equal.
use mathlib.Core.Path.{◌≡◌}
use Prim.Native.Nat.{◌-◌, ◌≤◌}
use lib.ListN.{length, take, drop}
use Rattle.bsii_field.proofs.Names.{Seeking}
use Rattle.bsii_field.proofs.field_index.Given as goal

abbrev pub invariant-loop-i : goal.invariant-loop-i
invariant-loop-i l = take l.i l.name ≡ take l.i (drop l.start l.s)

abbrev pub invariant-definitions : goal.invariant-definitions
invariant-definitions l = (l.index ≤ l.field) × Seeking l.s l.fields l.name l.field l.index

abbrev pub decreases-definitions : goal.decreases-definitions
decreases-definitions l = length l.s - l.field
