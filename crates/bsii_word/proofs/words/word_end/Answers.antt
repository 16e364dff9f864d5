-- `words::word_end`: What the answer means ends where the specification's result does.
use mathlib.Core.Path.{ap}
use Rattle.bsii_string.specs.Answers.{end_of}
use Rattle.bsii_string.proofs.Passed.{passed_on}
use Rattle.bsii_word.proofs.words.word_end.Goals as goal

pub returns-in_err-next : goal.returns-in_err-next
unfolding end_of
returns-in_err-next c = rw (passed_on c.from_residual.ensures.1) (ap end_of c.in_err-next.ensures)

pub returns : goal.returns
unfolding end_of
returns c = ap end_of c.in_ok-next.ensures
