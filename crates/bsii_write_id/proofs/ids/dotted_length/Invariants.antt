-- The lengths of the words that are passed, and of those that are left, from `place` on, add up to that of all: a turn moves one over.
use Prim.Native.Nat.{◌+◌, ◌-◌, ◌*◌, ◌≤◌}
use mathlib.Core.Path.{◌≡◌}
use lib.ListN.{length}
use Rattle.bsii_write_id.specs.Ids.{dotted_at}
use Rattle.bsii_write_id.proofs.ids.dotted_length.Given as goal

abbrev pub invariant-loop : goal.invariant-loop
invariant-loop l = (l.long + length (dotted_at (l.count - l.counter) l.raw l.place) ≡ length (dotted_at l.count l.raw 9)) × (l.long + 14 * (l.count - l.counter) ≤ 14 * l.count) × (l.place + 8 * (l.count - l.counter) ≡ 9 + 8 * l.count)
