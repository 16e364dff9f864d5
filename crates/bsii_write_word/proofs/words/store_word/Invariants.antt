-- The characters in front of i are stored, and with those of what is left of the word it is the whole word: a division takes two of them. A word has at most
-- thirteen, so those that are left have room, and what is left is no more than the word, so its products fit.
use Prim.Native.Nat.{◌+◌, ◌≤◌}
use mathlib.Core.Path.{◌≡◌}
use lib.ListN.{length}
use Rattle.bsii_text_length.specs.Words.{spelling}
use Rattle.bsii_write_word.proofs.WordLaws.{Rest}
use Rattle.bsii_write_word.proofs.words.store_word.Given as goal

abbrev pub invariant-loop-rest : goal.invariant-loop-rest
invariant-loop-rest l = (length l.out ≡ length l.initial.out) × (l.rest ≤ l.word) × (l.i + length (spelling l.rest) ≤ l.to + 13) × Rest l.out l.i (spelling l.rest) l.initial.out l.to (spelling l.word)

abbrev pub decreases-loop-rest : goal.decreases-loop-rest
decreases-loop-rest l = l.rest
