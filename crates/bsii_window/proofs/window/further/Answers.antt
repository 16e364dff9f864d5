use mathlib.Core.Path.{sym, ◌∙◌}
use Rattle.bsii_window.proofs.Laws.{capped_is}
use Rattle.bsii_window.proofs.window.further.Goals as goal

pub returns : goal.returns
returns c = c.saturating_add.ensures ∙ sym (capped_is c.args.at c.args.count)
