-- `words::encoded_str_parser`: The word is read, bit 63 dropped, and its digits tested.
use mathlib.Core.Path.{sym, ◌∙◌}
use lib.ListN.{drop}
use Rattle.bsii_string.proofs.Passed.{passed_on}
use Rattle.bsii_word.proofs.Base38.{accepted, not_accepted}
use Rattle.bsii_word.proofs.WordLaws.{word_short, word_whole, word_not}
use Rattle.bsii_word.proofs.words.encoded_str_parser.Goals as goal

pub returns-in_err-n : goal.returns-in_err-n
returns-in_err-n c =
    let a = c.args in
    rw (passed_on c.from_residual.ensures.1) (sym (word_short (drop a.at a.s.now) a.at (sym c.in_err-n.ensures)))

pub returns-in-Some : goal.returns-in-Some
returns-in-Some c =
    let a = c.args in
    sym (word_whole (drop a.at a.s.now) a.at _ _ _ (sym c.in_ok-n.ensures) (accepted _ (sym c.spelled_length.ensures ∙ c.in-Some.is)))

pub returns-in-None : goal.returns-in-None
returns-in-None c =
    let a = c.args in
    rw c.refused.ensures (sym (word_not (drop a.at a.s.now) a.at _ _ _ (sym c.in_ok-n.ensures) (not_accepted _ (sym c.spelled_length.ensures ∙ c.in-None.is))))
