use mathlib.Core.Path.{sym, ap}
use lib.ListN.{length}
use Rattle.bsii_write.proofs.NumberLaws.{false_text, true_text}
use native.Mathlib.Omega.{arith}
use Rattle.bsii_number_length.proofs.numbers.bool_length.Goals as goal

pub returns-then-n-eq0 : goal.returns-then-n-eq0
returns-then-n-eq0 c = (sym (ap length (false_text c.args.n c.if-n-eq0.true)), omega arith)

pub returns-else-n-eq0 : goal.returns-else-n-eq0
returns-else-n-eq0 c = (sym (ap length (true_text c.args.n c.if-n-eq0.false)), omega arith)
