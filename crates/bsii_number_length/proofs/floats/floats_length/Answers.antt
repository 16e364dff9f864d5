use Rattle.std.proofs.Common.{◌≡◌, ◌+◌, ◌*◌, ℕ, length, ap, ◌∙◌, arith, rules}
use Rattle.std.specs.List.{sum_by}
use Rattle.std.proofs.lemmas.List.{take_all}
use Rattle.std.proofs.lemmas.List.Sums.{sum_by_more}
use Rattle.bsii_format.specs.Floats.{float_text}
use Rattle.bsii_number_length.proofs.LengthLaws.{row_length}
use Rattle.bsii_number_length.proofs.floats.floats_length.Goals as goal

pub loop-n-preserved : goal.loop-n-preserved
loop-n-preserved g c =
    let v = c.args.v.items in
    let size : length v ≡ g.row.N = search rules in
    let kept = c.loop-n.invariant in
    (omega (arith, kept.0, c.float_length-length.ensures.0, sum_by_more (λ (k : ℕ). length (float_text k)) v c.loop-n.n-index 0 (omega arith)), omega arith)

pub returns : goal.returns
returns g c =
    let v = c.args.v.items in
    let size : length v ≡ g.row.N = search rules in
    let e : c.loop-n.n-index ≡ g.row.N = omega arith in
    let kept = rw e at c.loop-n.invariant.0 in
    (kept ∙ ap (λ l. 2 * g.row.N + sum_by (λ (k : ℕ). length (float_text k)) l) (take_all g.row.N v (omega arith)) ∙ row_length float_text g.row.N v size c.requires.0 c.requires.1, omega arith)
