-- The bytes from the one at `i` on are read: so it is for none, and each turn takes the byte in front of them.
use Prim.Native.Nat.{◌+◌, ◌-◌, ◌^◌, ◌<◌}
use mathlib.Core.Path.{◌≡◌}
use lib.ListN.{take, drop}
use Rattle.bsii_format.specs.Numbers.{little_endian}
use Rattle.bsii_index_record.proofs.number_at.Given as goal

abbrev pub invariant-loop-i : goal.invariant-loop-i
invariant-loop-i l = (l.n ≡ little_endian (take (l.width - l.i) (drop (l.at + l.i) l.s))) × (l.n < 256 ^ (l.width - l.i))
