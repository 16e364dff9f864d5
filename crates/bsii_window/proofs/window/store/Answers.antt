use mathlib.Core.Path.{◌∙◌}
use native.Mathlib.Omega.{arith}
use Rattle.bsii_window.proofs.Laws.{more, enough}
use Rattle.bsii_window.proofs.window.store.Goals as goal

pub loop-i-preserved : goal.loop-i-preserved
loop-i-preserved c = let e = more c.args.out.now c.args.start c.args.text.now c.loop-i.i (omega arith) in cc

pub returns : goal.returns
returns c = c.loop-i.invariant ∙ enough c.args.out.now c.args.start c.args.text.now c.loop-i.i c.requires (omega arith)
