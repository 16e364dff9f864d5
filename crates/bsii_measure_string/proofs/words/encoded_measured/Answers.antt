use mathlib.Core.Path.{refl}
use Rattle.bsii_string.proofs.Passed.{passed_on}
use Rattle.bsii_measure_string.proofs.WordMeasures.{encoded_fault, encoded_none, encoded_some}
use Rattle.bsii_measure_string.proofs.words.encoded_measured.Goals as goal

pub returns-in_err-word : goal.returns-in_err-word
returns-in_err-word c = let a = c.args in rw (passed_on c.from_residual.ensures.1) (encoded_fault a.s.now a.at c.in_err-word.ensures refl)

pub returns-then-word-eq0 : goal.returns-then-word-eq0
returns-then-word-eq0 c = let a = c.args in encoded_none a.s.now a.at c.in_ok-word.ensures refl c.if-word-eq0.true

pub returns : goal.returns
returns c = let a = c.args in encoded_some a.s.now a.at c.in_ok-word.ensures refl c.if-word-eq0.false
