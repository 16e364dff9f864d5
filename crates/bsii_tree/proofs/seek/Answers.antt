use Prim.Native.Nat.{◌%◌}
use native.Mathlib.Omega.{arith}
use mathlib.Core.Path.{refl, ◌∙◌}
use Rattle.bsii_tree.proofs.Trees.{reached_root, reached_child, placed}
use Rattle.bsii_tree.proofs.seek.Goals as goal

pub loop-rows-init : goal.loop-rows-init
loop-rows-init c = (c.requires.0.tree, reached_root c.requires.0.tree c.args.id c.requires.1)

-- the row has another id, which is a word too
pub returns-then-child-eq0 : goal.returns-then-child-eq0
returns-then-child-eq0 c =
    let i = c.loop-rows.invariant in (
      c.loop-rows.row,
      c.loop-rows.bits % 2,
      refl,
      placed i.0 i.1 (λ q. c.if-id_at-id.false (c.id_at.ensures ∙ q)) (omega (arith, c.id_at.ensures, c.id_at.type_inv)) c.ranges.id.fits c.if-child-eq0.true,
    )

pub loop-rows-preserved : goal.loop-rows-preserved
loop-rows-preserved c =
    let i = c.loop-rows.invariant in
    (i.0, reached_child i.0 i.1 (λ q. c.if-id_at-id.false (c.id_at.ensures ∙ q)) (omega (arith, c.id_at.ensures, c.id_at.type_inv)) c.ranges.id.fits c.if-child-eq0.false)
