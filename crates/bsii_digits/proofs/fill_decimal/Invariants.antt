-- What is stored from i on are the last digits, and the digits of what is left of the number stand in front of them: each turn moves two over.
use Prim.Native.Nat.{◌≤◌}
use lib.ListN.{length}
use Rattle.bsii_format.specs.Digits.{decimal}
use Rattle.bsii_digits.proofs.Fills.{Filled}
use Rattle.bsii_digits.proofs.fill_decimal.Given as goal

abbrev pub invariant-loop-rest : goal.invariant-loop-rest
invariant-loop-rest l = Filled l.initial.out l.end (decimal l.n) (decimal l.rest) l.i l.out × (length (decimal l.n) ≤ l.end) × (l.end ≤ length l.initial.out)

abbrev pub decreases-loop-rest : goal.decreases-loop-rest
decreases-loop-rest l = l.rest
