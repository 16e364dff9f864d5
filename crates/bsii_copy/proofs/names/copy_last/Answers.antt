use mathlib.Core.Path.{sym, ap}
use native.Mathlib.Omega.{arith}
use lib.ListN.{drop_of_length-le}
use lib.Seq.{sets}
use Rattle.bsii_copy.proofs.Copies.{last}
use Rattle.bsii_copy.proofs.names.copy_last.Goals as goal

pub returns-then-from-text : goal.returns-then-from-text
returns-then-from-text c = let a = c.args in last a.out.now a.to a.text.now a.from (omega arith)

pub returns-else-from-text : goal.returns-else-from-text
returns-else-from-text c = let a = c.args in sym (ap (sets a.out.now a.to) (drop_of_length-le a.text.now {i = a.from} (omega arith)))
