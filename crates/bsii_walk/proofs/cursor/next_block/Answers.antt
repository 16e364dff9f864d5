use mathlib.Core.Path.{refl, ap, ◌∙◌}
use native.Mathlib.Omega.{arith}
use Rattle.std.specs.Prelude.{Some}
use Rattle.bsii_walk.proofs.Loops.{over_start, over_stood, cursor_end, cursor_block, cursor_later, cursor_on}
use Rattle.bsii_walk.proofs.cursor.next_block.Goals as goal

pub loop-next-init : goal.loop-next-init
loop-next-init c = over_start c.requires.inside (λ last l. refl)

pub record_again-requires : goal.record_again-requires
record_again-requires c = let w = over_stood c.loop-next.invariant c.requires in (w.short, w.inside, w.standing.entered.valid)

pub returns-in_err-next : goal.returns-in_err-next
returns-in_err-next c = rw c.from_residual.ensures (cursor_end c.loop-next.invariant c.record_again.ensures c.in_err-next.was)

pub loop-next-smaller : goal.loop-next-smaller
loop-next-smaller c =
    let p = cursor_later c.loop-next.invariant c.record_again.ensures (c.in_ok-next.was ∙ ap Some c.in-Prototype.is) c.requires in
    omega (arith, p.0, p.1)

pub loop-next-preserved : goal.loop-next-preserved
loop-next-preserved c = cursor_on c.loop-next.invariant c.record_again.ensures (c.in_ok-next.was ∙ ap Some c.in-Prototype.is) c.requires

pub returns-in-Block : goal.returns-in-Block
returns-in-Block c = cursor_block c.loop-next.invariant c.record_again.ensures (c.in_ok-next.was ∙ ap Some c.in-Block.is)
