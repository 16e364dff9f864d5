-- `words::spelled_length`: Invariant: what is left of the word has a length if the whole has, shorter by what was counted; the table says of two digits whether
-- one is 0. Measure: what is left, which a division by 1444 lowers, and by more than is counted for it: so the count fits.
use Prim.Native.Nat.{◌+◌, ◌≤◌}
use mathlib.Core.Path.{◌≡◌}
use Rattle.bsii_word.proofs.Base38.{behind, length_of}
use Rattle.bsii_word.proofs.words.spelled_length.Given as goal

abbrev pub invariant-loop-rest : goal.invariant-loop-rest
invariant-loop-rest l = (behind l.long (length_of l.rest) ≡ length_of l.n) × (l.long + l.rest ≤ l.n)

abbrev pub decreases-loop-rest : goal.decreases-loop-rest
decreases-loop-rest l = l.rest
