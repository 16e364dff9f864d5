-- Invariant: what was added so far, a dot with each word, and what the words that are left would add, is what all of them do. A word
-- has thirteen characters at most, so the sum fits.
use mathlib.Core.Path.{◌≡◌}
use Prim.Native.Nat.{◌+◌, ◌*◌, ◌-◌, ◌≤◌}
use lib.ListN.{drop}
use Rattle.bsii_format.specs.Reader.{repeat}
use Rattle.bsii_format.specs.Strings.{encoded_str_parser}
use Rattle.bsii_measure_string.specs.Measured.{measured, row_size}
use Rattle.bsii_measure_string.proofs.WordMeasures.{dotted_size}
use Rattle.bsii_measure_string.proofs.words.words_measured.Given as goal

abbrev pub invariant-loop : goal.invariant-loop
invariant-loop l =
    (l.counter ≤ l.long) × (l.long ≤ 14 * l.counter)
    × (measured (λ x. l.long + row_size dotted_size l.counter x) (repeat (l.count - l.counter) encoded_str_parser l.at (drop l.at l.s)) ≡ measured (row_size dotted_size 0) (repeat l.count encoded_str_parser l.start (drop l.start l.s)))
