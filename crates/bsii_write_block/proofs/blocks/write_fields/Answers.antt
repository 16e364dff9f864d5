use mathlib.Core.Path.{refl, ◌∙◌}
use Rattle.bsii_format.specs.Text.{value_text}
use Rattle.bsii_string.proofs.Passed.{passed_on}
use Rattle.bsii_write_block.proofs.FieldLaws.{turned_by}
use Rattle.bsii_write_block.proofs.blocks.write_fields.Goals as goal

pub loop-next-init : goal.loop-next-init
loop-next-init c = (λ r new h. h, refl)

pub returns-in_err-next : goal.returns-in_err-next
returns-in_err-next c = rw (passed_on c.from_residual.ensures.1) (c.loop-next.invariant.0 _ _ c.in_err-next.ensures)

pub loop-next-preserved : goal.loop-next-preserved
loop-next-preserved c =
    let t = turned_by value_text c.args.version c.args.s.now c.loop-next.p c.loop-next.out _ c.in-Some.is c.in_ok-next.ensures in
    (λ r new h. c.loop-next.invariant.0 r new (t.3 r new h), t.2 ∙ c.loop-next.invariant.1)

pub returns : goal.returns
returns c = c.loop-next.invariant.0 _ _ (turned_by value_text c.args.version c.args.s.now c.loop-next.p c.loop-next.out _ c.in_default.is c.in_ok-next.ensures)
