use Rattle.bsii_index_field.proofs.Values.{keep_this, keep_that}
use Rattle.bsii_index_field.proofs.blocks.keep.Goals as goal

pub returns-in-Some : goal.returns-in-Some
returns-in-Some c = keep_this c.in-Some.is c.if-position-passed.true _ _

pub returns-in_default : goal.returns-in_default
returns-in_default c = keep_that c.in-Some.is c.if-position-passed.false _ _
