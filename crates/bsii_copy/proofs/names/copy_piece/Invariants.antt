-- The first i bytes of the piece are those of the text from `from` on; then the first i bytes of the piece are stored.
use mathlib.Core.Path.{◌≡◌}
use lib.ListN.{length, take, drop}
use lib.Seq.{sets}
use Rattle.bsii_copy.proofs.names.copy_piece.Given as goal

abbrev pub invariant-loop-i : goal.invariant-loop-i
invariant-loop-i g l = (length l.piece ≡ g.row.N) × (take l.i l.piece ≡ take l.i (drop l.from l.text))

abbrev pub invariant-loop-i-2 : goal.invariant-loop-i-2
invariant-loop-i-2 g l = l.out ≡ sets l.initial.out l.to (take l.i l.piece)
