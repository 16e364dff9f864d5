use Rattle.std.proofs.Common.{◌≡◌, from_bits, length, take, map}
use Rattle.std.specs.Float.{binary32}
use Rattle.bsii_float.proofs.floats.floats_of.Given as goal

abbrev pub invariant-loop-i : goal.invariant-loop-i
invariant-loop-i g l = (length l.items ≡ g.row.N) × (take l.i l.items ≡ map (from_bits binary32) (take l.i l.bits.items))
