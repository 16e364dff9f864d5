-- The text of the bytes that are passed is written, and that of the rest is to follow: a turn passes a run and the byte behind it.
use Prim.Native.Nat.{◌-◌}
use lib.ListN.{length, drop}
use Rattle.bsii_format.specs.Text.{escaped}
use Rattle.bsii_window.proofs.Loops.{Begun}
use Rattle.bsii_write.proofs.strings.write_escaped.Given as goal

abbrev pub invariant-loop-i : goal.invariant-loop-i
invariant-loop-i l = Begun l.initial.out l.at (escaped l.bytes) (escaped (drop l.i l.bytes)) l.to l.out

abbrev pub decreases-loop-i : goal.decreases-loop-i
decreases-loop-i l = length l.bytes - l.i
