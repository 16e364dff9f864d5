use mathlib.Core.Path.{refl, sym, ◌∙◌}
use Rattle.bsii_format.specs.Strings.{low63}
use Rattle.bsii_string.proofs.Passed.{passed_on}
use Rattle.bsii_measure_string.proofs.WordMeasures.{word_short, word_zero, word_next}
use Rattle.bsii_measure_string.proofs.words.word_measured.Goals as goal

pub returns-in_err-n : goal.returns-in_err-n
returns-in_err-n c = let a = c.args in rw (passed_on c.from_residual.ensures.1) (word_short a.s.now a.at c.in_err-n.ensures refl)

pub returns-in-None : goal.returns-in-None
unfolding low63
returns-in-None c =
    let a = c.args in
    word_zero a.s.now a.at c.in_ok-n.ensures refl (sym c.spelled_length.ensures ∙ c.in-None.is) c.refused.ensures

pub returns-in-Some : goal.returns-in-Some
unfolding low63
returns-in-Some c =
    let a = c.args in
    word_next a.s.now a.at c.in_ok-n.ensures refl (sym c.spelled_length.ensures ∙ c.in-Some.is)
