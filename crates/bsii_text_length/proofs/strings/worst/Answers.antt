use mathlib.Core.Path.{sym, ap, ◌∙◌}
use native.Mathlib.Omega.{arith}
use Prim.Native.Nat.{◌+◌}
use lib.ListN.{drop}
use Rattle.bsii_text_length.specs.Classes.{larger, worst}
use Rattle.bsii_text_length.proofs.ClassLaws.{max_larger, worst_more, worst_none, larger_none, larger_first}
use Rattle.bsii_text_length.proofs.strings.worst.Goals as goal

pub loop-b-init : goal.loop-b-init
loop-b-init c = larger_first (worst c.args.bytes.now)

pub loop-b-preserved : goal.loop-b-preserved
loop-b-preserved c =
    let s = c.args.bytes.now in
    let l = c.loop-b in
    ap (λ m. larger m (worst (drop (l.b-index + 1) s))) (c.max-all.ensures ∙ max_larger l.all c.class_of.result ∙ ap (larger l.all) c.class_of.ensures)
    ∙ worst_more s l.b-index l.all (omega arith)
    ∙ l.invariant

pub returns : goal.returns
returns c =
    let l = c.loop-b in
    sym (ap (larger l.all) (worst_none c.args.bytes.now l.b-index (omega arith)) ∙ larger_none l.all) ∙ l.invariant
