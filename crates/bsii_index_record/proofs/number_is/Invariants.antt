-- The first i bytes are the number's: so it is for none, and each turn compares the next one.
use Prim.Native.Nat.{◌+◌, ◌-◌}
use mathlib.Core.Path.{◌≡◌}
use lib.ListN.{take, drop}
use Rattle.bsii_format.specs.Reader.{same}
use Rattle.bsii_format.specs.Numbers.{le}
use Rattle.bsii_index_record.proofs.number_is.Given as goal

abbrev pub invariant-loop-i : goal.invariant-loop-i
invariant-loop-i l = same (le l.width l.n) (take l.width (drop l.at l.s)) ≡ same (le (l.width - l.i) l.rest) (take (l.width - l.i) (drop (l.at + l.i) l.s))
