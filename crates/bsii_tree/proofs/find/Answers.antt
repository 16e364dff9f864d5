-- `find` meets its contract: the law of the arm that was taken.
use native.Mathlib.Omega.{arith}
use mathlib.Core.Path.{sym}
use Rattle.bsii_tree.proofs.Words.{row_missed, slot_found, slot_missed}
use Rattle.bsii_tree.proofs.find.Goals as goal

pub returns-then-rows-eq0 : goal.returns-then-rows-eq0
returns-then-rows-eq0 c = sym (row_missed c.requires c.args.id (λ i l e. omega arith))

pub returns-in-Row : goal.returns-in-Row
returns-in-Row c = slot_found c.requires c.args.id c.in-Row.is c.seek.ensures

pub returns-in-Link : goal.returns-in-Link
returns-in-Link c = sym (slot_missed c.requires c.args.id c.in-Link.is c.seek.ensures)
