use mathlib.Core.Path.{refl}
use Rattle.bsii_string.proofs.Passed.{passed_on}
use Rattle.bsii_measure_string.proofs.WordMeasures.{nameless_fault, nameless_next}
use Rattle.bsii_measure_string.proofs.words.nameless_measured.Goals as goal

pub returns-in_err-n : goal.returns-in_err-n
returns-in_err-n c = let a = c.args in rw (passed_on c.from_residual.ensures.1) (nameless_fault a.s.now a.at c.in_err-n.ensures refl)

pub returns : goal.returns
returns c = let a = c.args in nameless_next a.s.now a.at c.in_ok-n.ensures refl c.nameless_length.ensures.0
