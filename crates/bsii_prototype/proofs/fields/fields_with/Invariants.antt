-- `fields::fields_with`: The list from here, with the definitions passed in front, counts as the whole list does. An entry has bytes of
-- its own, so the count stays below the position, and what is left of the file is the measure.
use mathlib.Core.Path.{◌≡◌}
use Prim.Native.Nat.{◌-◌, ◌≤◌}
use lib.ListN.{length, drop}
use Rattle.bsii_prototype.specs.Entries.{fields_with}
use Rattle.bsii_prototype.specs.Answers.{count_of}
use Rattle.bsii_prototype.proofs.Lists.{count_from}
use Rattle.bsii_prototype.proofs.fields.fields_with.Given as goal

abbrev pub invariant-loop-next : goal.invariant-loop-next
invariant-loop-next g l = (l.count ≤ l.at) × (count_from l.count (fields_with g.S.Strings.reader l.at (drop l.at l.s)) ≡ count_of (fields_with g.S.Strings.reader l.start (drop l.start l.s)))

abbrev pub decreases-loop-next : goal.decreases-loop-next
decreases-loop-next g l = length l.s - l.at
