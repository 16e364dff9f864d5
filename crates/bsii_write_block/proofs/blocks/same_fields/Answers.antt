use Rattle.bsii_write_block.proofs.BlockLaws.{same_both}
use Rattle.bsii_write_block.proofs.blocks.same_fields.Goals as goal

pub returns-else-in_force-last : goal.returns-else-in_force-last
returns-else-in_force-last c = let a = c.args in same_both a.s.now a.in_force a.last a.fields a.last_fields c.same_count.ensures
