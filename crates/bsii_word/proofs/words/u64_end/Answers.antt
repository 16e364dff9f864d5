-- `words::u64_end`: A number of eight bytes, without its value.
use mathlib.Core.Path.{sym, ap}
use native.Mathlib.Omega.{arith}
use Rattle.bsii_format.proofs.Positions.{number_at_law, number_short}
use Rattle.bsii_string.specs.Answers.{end_of}
use Rattle.bsii_string.proofs.Items.{short_of}
use Rattle.bsii_word.proofs.words.u64_end.Goals as goal

pub returns-then-rest-lt8 : goal.returns-then-rest-lt8
unfolding end_of
returns-then-rest-lt8 c = let a = c.args in rw c.short.ensures (ap end_of (short_of 8 c.left-rest.ensures (number_short 8 a.s.now a.at (omega arith))))

pub returns : goal.returns
unfolding end_of
returns c = let a = c.args in sym (ap end_of (number_at_law 8 a.s.now a.at (omega arith)))
