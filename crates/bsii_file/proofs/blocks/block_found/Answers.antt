-- The block was accepted, so skip_id ends where its id does and meets no fault, and the u32 that its record starts with is its prototype id.
use Rattle.bsii_file.proofs.BlockCalls.{answered_fault, id_later, answered}
use Rattle.bsii_file.proofs.blocks.block_found.Goals as goal

pub returns-in_err-end : goal.returns-in_err-end
returns-in_err-end c = answered_fault c.in_err-end.ensures _

pub overflow_sub-result : goal.overflow_sub-result
overflow_sub-result c =
    let a = c.args in
    id_later a.s.now a.b.id c.in_ok-end.ensures

pub returns : goal.returns
returns c = answered c.in_ok-end.ensures c.u32_at.ensures
