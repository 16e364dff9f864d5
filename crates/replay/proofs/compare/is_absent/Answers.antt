use mathlib.Core.Path.{sym, ap, ◌∙◌}
use Rattle.bsii_format.proofs.Causes.{same_not}
use Rattle.replay.specs.Agree.{is_absent}
use Rattle.replay.proofs.compare.is_absent.Goals as goal

pub returns-in-Ok : goal.returns-in-Ok
returns-in-Ok c = ap is_absent c.in-Ok.ensures.reply
