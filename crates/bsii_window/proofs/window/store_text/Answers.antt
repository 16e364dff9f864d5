use native.Mathlib.Omega.{arith}
use Rattle.bsii_window.proofs.Laws.{more}
use Rattle.bsii_window.proofs.window.store_text.Goals as goal

pub loop-i-preserved : goal.loop-i-preserved
loop-i-preserved c = let e = more c.args.out.now c.args.to c.args.text.now c.loop-i.i (omega arith) in cc
