use Rattle.std.proofs.Common.{◌≡◌, List, refl, sym, ap, ◌∙◌, arith}
use Rattle.std.proofs.lemmas.List.{length-set, length-replicate, take_all, take_more_set}
use Rattle.bsii_string.specs.NumbersAt.{numbers_at}
use Rattle.bsii_float.proofs.Rows.{numbers_more}
use Rattle.bsii_float.proofs.floats.bits_at.Goals as goal

pub loop-i-init : goal.loop-i-init
unfolding numbers_at
loop-i-init g c = (length-replicate _ _, refl)

pub loop-i-preserved : goal.loop-i-preserved
loop-i-preserved g c =
    let kept = c.loop-i.invariant in
    let i = c.loop-i.i in (
      length-set _ _ _ ∙ kept.0,
      take_more_set c.loop-i.items i c.u32_at.result (omega arith)
          ∙ rw (kept.1, c.u32_at.ensures) (sym (numbers_more i 4 c.args.raw.now 0 _ (omega arith))),
    )

pub returns : goal.returns
returns g c =
    let kept = c.loop-i.invariant in
    let e : c.loop-i.i ≡ g.row.N = omega arith in
    ap (λ (l : List _). record { items = l }) (sym (take_all g.row.N c.loop-i.items (omega arith)) ∙ rw e at kept.1)
