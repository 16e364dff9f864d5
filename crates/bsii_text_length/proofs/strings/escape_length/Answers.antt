use mathlib.Core.Path.{sym, ap, ◌∙◌}
use mathlib.Core.Bool.{cond}
use Rattle.bsii_text_length.specs.Classes.{escape_size}
use Rattle.bsii_text_length.proofs.strings.escape_length.Goals as goal

pub returns-then-is_raw : goal.returns-then-is_raw
unfolding escape_size
returns-then-is_raw c = ap (λ b. cond b 1 4) (sym c.if-is_raw.true ∙ c.is_raw.ensures)

pub returns-else-is_raw : goal.returns-else-is_raw
unfolding escape_size
returns-else-is_raw c = ap (λ b. cond b 1 4) (sym c.if-is_raw.false ∙ c.is_raw.ensures)
