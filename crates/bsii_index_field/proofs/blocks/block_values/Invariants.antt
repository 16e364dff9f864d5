-- `blocks::block_values`: Invariant: the values from here on end as all of them do, `passed` were passed, and the one at the index is kept once it is among
-- them. Measure: what is left of the file behind the definitions passed, since each has a byte at least: so `passed` fits too.
use Prim.Native.Nat.{◌-◌}
use lib.ListN.{length}
use Rattle.bsii_format.specs.Values.{value_parser}
use Rattle.bsii_block.proofs.Values.{InStep}
use Rattle.bsii_index_field.proofs.Values.{Keeping}
use Rattle.bsii_index_field.proofs.blocks.block_values.Given as goal

abbrev pub invariant-loop-type_id : goal.invariant-loop-type_id
invariant-loop-type_id l = InStep (value_parser l.version) l.s l.fields l.start l.field l.at l.passed × Keeping l.version l.s l.fields l.start l.field l.at l.passed l.index l.kept

abbrev pub decreases-loop-type_id : goal.decreases-loop-type_id
decreases-loop-type_id l = length l.s - l.field
