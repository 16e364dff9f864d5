use Rattle.std.proofs.Common.{◌≡◌, from_bits, List, length, map, refl, sym, ap, ◌∙◌, arith, rules}
use Rattle.std.proofs.lemmas.List.{length-set, length-replicate, map-append, take_all, take_more, take_more_set}
use Rattle.std.specs.Float.{binary32}
use Rattle.bsii_float.proofs.floats.floats_of.Goals as goal

pub loop-i-init : goal.loop-i-init
loop-i-init g c = (length-replicate _ _, refl)

pub loop-i-preserved : goal.loop-i-preserved
loop-i-preserved g c =
    let bits = c.args.bits.items in
    let i = c.loop-i.i in
    let size : length bits ≡ g.row.N = search rules in
    let kept = c.loop-i.invariant in (
      length-set _ _ _ ∙ kept.0,
      take_more_set c.loop-i.items i c.float_of.result (omega arith)
          ∙ rw (kept.1, take_more bits i 0 (omega arith), map-append, c.float_of.ensures) refl,
    )

pub returns : goal.returns
returns g c =
    let bits = c.args.bits.items in
    let size : length bits ≡ g.row.N = search rules in
    let kept = c.loop-i.invariant in
    let e : c.loop-i.i ≡ g.row.N = omega arith in
    let all = sym (take_all g.row.N c.loop-i.items (omega arith)) ∙ rw e at kept.1 ∙ ap (map (from_bits binary32)) (take_all g.row.N bits (omega arith)) in
    ap (λ (l : List _). record { items = l }) all
