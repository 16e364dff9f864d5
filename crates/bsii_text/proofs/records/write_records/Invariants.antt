-- The text is that of the records that are passed, with the text of those from here on behind it: so it is at the start, and each record keeps it.
use Rattle.bsii_format.specs.Text.{value_text}
use Rattle.bsii_format.specs.BlockText.{every_block}
use Rattle.bsii_text.proofs.WalkLaws.{Going}
use Prim.Native.Nat.{◌-◌}
use lib.ListN.{length}
use Rattle.bsii_text.proofs.records.write_records.Given as goal

abbrev pub invariant-loop-lines : goal.invariant-loop-lines
invariant-loop-lines l = Going value_text every_block l.version l.s l.start l.initial.table l.rows l.initial.out l.to l.at l.here l.table l.out

abbrev pub decreases-loop-lines : goal.decreases-loop-lines
decreases-loop-lines l = length l.s - l.at
