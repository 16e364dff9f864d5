-- The first i bytes are stored, and to store the others would store the number: so it is for none, and each turn stores the next one.
use Prim.Native.Nat.{◌+◌, ◌-◌}
use mathlib.Core.Path.{◌≡◌}
use lib.Seq.{sets}
use Rattle.bsii_format.specs.Numbers.{le}
use Rattle.bsii_index_record.proofs.put_number.Given as goal

abbrev pub invariant-loop-i : goal.invariant-loop-i
invariant-loop-i l = sets l.out (l.at + l.i) (le (l.width - l.i) l.rest) ≡ sets l.initial.out l.at (le l.width l.n)
