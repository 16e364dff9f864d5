use mathlib.Core.Path.{refl}
use native.Mathlib.Omega.{arith}
use Rattle.bsii_walk.proofs.Loops.{readable_stood, over_start, over_stood, over_later}
use Rattle.bsii_walk.proofs.Searching.{seek_end, seek_found, seek_on}
use Rattle.bsii_walk.proofs.seek.seek.Goals as goal

pub loop-block-init : goal.loop-block-init
loop-block-init c = (over_start c.requires.inside (λ last l. record { equal = refl }), omega arith)

pub next_block-requires : goal.next_block-requires
next_block-requires c = over_stood c.loop-block.invariant.0 (readable_stood c.requires)

pub returns-in_err-block : goal.returns-in_err-block
returns-in_err-block c = rw c.from_residual.ensures (seek_end c.loop-block.invariant.0 c.next_block.ensures c.in_err-block.was)

pub returns-in_default : goal.returns-in_default
returns-in_default c = seek_found c.loop-block.invariant.0 c.next_block.ensures c.in_ok-block.was c.count_down.ensures c.in_default.is

pub overflow_add-number : goal.overflow_add-number
overflow_add-number c = omega (arith, c.loop-block.invariant.1, c.loop-block.invariant.0.inside, c.requires.short)

pub loop-block-smaller : goal.loop-block-smaller
loop-block-smaller c =
    let p = over_later c.loop-block.invariant.0 c.next_block.ensures c.in_ok-block.was (readable_stood c.requires) in
    omega (arith, p.0, p.1, p.2)

pub loop-block-preserved : goal.loop-block-preserved
loop-block-preserved c =
    let start = readable_stood c.requires in
    let p = over_later c.loop-block.invariant.0 c.next_block.ensures c.in_ok-block.was start in
    (seek_on c.loop-block.invariant.0 c.next_block.ensures c.in_ok-block.was c.count_down.ensures c.in-Some.is start, omega (arith, p.0, p.1, c.loop-block.invariant.1))
