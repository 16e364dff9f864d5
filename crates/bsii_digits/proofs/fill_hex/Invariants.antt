-- What is stored from i on are the last digits, and so many of what is left of the number stand in front of them: each turn moves two over.
use Prim.Native.Nat.{◌-◌, ◌*◌, ◌≤◌}
use lib.ListN.{length}
use Rattle.bsii_format.specs.Digits.{hex_padded}
use Rattle.bsii_digits.proofs.Fills.{Filled}
use Rattle.bsii_digits.proofs.fill_hex.Given as goal

abbrev pub invariant-loop : goal.invariant-loop
invariant-loop l =
    Filled l.initial.out l.fn.end (hex_padded l.count l.n) (hex_padded (l.count - 2 * l.counter) l.rest) l.i l.out × (length (hex_padded l.count l.n) ≤ l.fn.end)
    × (l.fn.end ≤ length l.initial.out)
