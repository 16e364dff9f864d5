-- The larger of the class so far and the largest of the rest is the largest of all: a turn moves one byte over.
use mathlib.Core.Path.{◌≡◌}
use lib.ListN.{drop}
use Rattle.bsii_text_length.specs.Classes.{larger, worst}
use Rattle.bsii_text_length.proofs.strings.worst.Given as goal

abbrev pub invariant-loop-b : goal.invariant-loop-b
invariant-loop-b l = larger l.all (worst (drop l.b-index l.bytes)) ≡ worst l.bytes
