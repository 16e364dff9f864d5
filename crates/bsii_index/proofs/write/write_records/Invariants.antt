-- Invariant: the records from `start` on are those passed so far and those from here on; the index records of those passed stand at the front of the
-- space, up to `to`, and behind them stands what was there. The file is accepted, so no step refuses, and the whole index has room, so each record has.
-- Measure: what is left of the file, since a record has a byte at least.
use Prim.Native.Nat.{◌-◌}
use lib.ListN.{length}
use Rattle.bsii_index.proofs.Writing.{Writing}
use Rattle.bsii_index.proofs.write.write_records.Given as goal

abbrev pub invariant-loop-step : goal.invariant-loop-step
invariant-loop-step l = Writing l.version l.s l.start l.initial.table l.initial.space l.width l.p l.table l.space l.to

abbrev pub decreases-loop-step : goal.decreases-loop-step
decreases-loop-step l = length l.s - l.p.at
