-- `pairs::same_count`: Invariant: the lists from here on are equally long if the whole lists are. Measure: what is left of the file behind the first list's
-- definitions passed.
use Prim.Native.Nat.{◌-◌}
use lib.ListN.{length}
use Rattle.bsii_definition.proofs.PairLaws.{Counting}
use Rattle.bsii_definition.proofs.pairs.same_count.Given as goal

abbrev pub invariant-loop-next : goal.invariant-loop-next
invariant-loop-next l = Counting l.s l.fields l.last_fields l.field l.last_field

abbrev pub decreases-loop-next : goal.decreases-loop-next
decreases-loop-next l = length l.s - l.field
