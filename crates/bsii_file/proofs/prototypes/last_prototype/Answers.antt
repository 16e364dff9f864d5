-- The table keeps the definitions: no row for an id means no definition of it, and a row's `last` is the offset of the last one, where it stands.
use Rattle.bsii_file.proofs.Definitions.{last_absent, last_answers}
use Rattle.bsii_file.proofs.prototypes.last_prototype.Goals as goal

pub returns-in_default : goal.returns-in_default
returns-in_default c = rw c.refused.ensures (last_absent c.in_default.ensures)

pub returns : goal.returns
returns c = last_answers c.in-Some.ensures c.size.ensures c.prototype_at.ensures
