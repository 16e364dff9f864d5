use Prim.Native.Nat.{◌+◌}
use mathlib.Core.Path.{◌∙◌}
use native.Mathlib.Omega.{arith}
use lib.ListN.{get_or, length-set}
use Rattle.bsii_window.proofs.Laws.{more}
use Rattle.bsii_copy.proofs.Copies.{read_more}
use Rattle.bsii_copy.proofs.names.copy_piece.Goals as goal

pub loop-i-preserved : goal.loop-i-preserved
loop-i-preserved g c =
    let a = c.args in
    let l = c.loop-i in
    (length-set l.piece l.i (get_or a.text.now (a.from + l.i) 0) ∙ l.invariant.0, read_more l.piece a.text.now a.from l.i (omega arith) (omega arith) l.invariant.1)

pub loop-i-2-preserved : goal.loop-i-2-preserved
loop-i-2-preserved g c =
    let l = c.loop-i-2 in
    let e = more c.args.out.now c.args.to c.loop-i.piece l.i (omega arith) in
    cc
