-- `find` meets its contract: the law of what `locate` answered.
use mathlib.Core.Path.{sym}
use Rattle.bsii_table.proofs.Laws.{row_found, missing_found}
use Rattle.bsii_table.proofs.find.Goals as goal

pub returns-in_err-at : goal.returns-in_err-at
returns-in_err-at c = rw c.from_residual.ensures (sym (missing_found c.requires c.args.id c.in_err-at.was c.locate.ensures))

pub returns : goal.returns
returns c = row_found c.requires c.args.id c.in_ok-at.was c.locate.ensures
