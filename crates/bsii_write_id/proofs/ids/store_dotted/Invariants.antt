-- The words that are passed are stored, and with those that are left, from `place` on, it is all of them: a turn moves one over. Each takes fourteen bytes at most.
use Prim.Native.Nat.{◌+◌, ◌-◌, ◌*◌, ◌≤◌}
use mathlib.Core.Path.{◌≡◌}
use lib.ListN.{length}
use Rattle.bsii_write_id.specs.Ids.{dotted_at}
use Rattle.bsii_write_word.proofs.WordLaws.{Rest}
use Rattle.bsii_write_id.proofs.ids.store_dotted.Given as goal

abbrev pub invariant-loop : goal.invariant-loop
invariant-loop l = (length l.out ≡ length l.initial.out) × (l.here + 14 * (l.count - l.counter) ≤ l.to + 14 * l.count) × (l.place + 8 * (l.count - l.counter) ≡ 9 + 8 * l.count) × Rest l.out l.here (dotted_at (l.count - l.counter) l.raw l.place) l.initial.out l.to (dotted_at l.count l.raw 9)
