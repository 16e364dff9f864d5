-- `enter` meets its contract: the law of what `locate` answered.
use Rattle.bsii_table.proofs.Laws.{row_entered, missing_entered}
use Rattle.bsii_table.proofs.enter.Goals as goal

pub returns-in-Some : goal.returns-in-Some
returns-in-Some c = row_entered c.requires c.args.id c.in-Some.is c.locate.ensures c.args.offset

pub returns-in_default : goal.returns-in_default
returns-in_default c = missing_entered c.requires c.args.id c.in_default.is c.locate.ensures c.args.offset
