use Rattle.std.proofs.Common.{◌≡◌, length, take}
use Rattle.bsii_string.specs.NumbersAt.{numbers_at}
use Rattle.bsii_float.proofs.floats.bits_at.Given as goal

abbrev pub invariant-loop-i : goal.invariant-loop-i
invariant-loop-i g l = (length l.items ≡ g.row.N) × (take l.i l.items ≡ numbers_at l.i 4 l.raw 0)
