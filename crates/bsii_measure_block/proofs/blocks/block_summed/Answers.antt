-- Under a definition that stands at the offset the head's end gives the name's length, and values_summed the values behind the id. The id has a byte
-- at least, so both lines fit into what its bytes allow.
use native.Mathlib.Omega.{arith}
use Rattle.bsii_string.proofs.Passed.{passed_on}
use Rattle.bsii_measure_block.proofs.BlockLaws.{block_absent, block_id_fault, begins, block_values}
use Rattle.bsii_measure_block.proofs.blocks.block_summed.Goals as goal

pub returns-in_err-first : goal.returns-in_err-first
returns-in_err-first c = rw (passed_on c.from_residual.ensures.1) (block_absent c.in_err-first.ensures _)

pub returns-in_err-id : goal.returns-in_err-id
returns-in_err-id c = rw (passed_on c.from_residual-in_err-id.ensures.1) (block_id_fault c.in_err-id.ensures)

pub framed-frame-requires : goal.framed-frame-requires
framed-frame-requires c =
    let g = begins c.args.prototype c.args.at c.requires (λ i. omega (arith, c.type_inv.s i)) c.in_ok-first.ensures c.in_ok-id.ensures in
    g.frame

pub values_summed-requires : goal.values_summed-requires
values_summed-requires c =
    let g = begins c.args.prototype c.args.at c.requires (λ i. omega (arith, c.type_inv.s i)) c.in_ok-first.ensures c.in_ok-id.ensures in
    rw c.framed-frame.ensures g.room

pub returns : goal.returns
returns c =
    let g = begins c.args.prototype c.args.at c.requires (λ i. omega (arith, c.type_inv.s i)) c.in_ok-first.ensures c.in_ok-id.ensures in
    block_values c.in_ok-first.ensures c.in_ok-id.ensures g.late (rw c.framed-frame.ensures at c.values_summed.ensures)
