-- `same_number` asks the same of the call's answer: a number is compared, a refusal is never the same.
use mathlib.Core.Path.{ap, ◌∙◌}
use lib.Dec.{eqb}
use Rattle.replay.specs.Agree.{same_number}
use Rattle.replay.proofs.compare.same_number.Goals as goal

pub returns-in-Ok : goal.returns-in-Ok
returns-in-Ok c = let n = c.args.expected in ap (λ z. eqb c.in-Ok.k z) c.size.ensures ∙ ap (same_number n) c.in-Ok.ensures.reply

pub returns-in-Err : goal.returns-in-Err
returns-in-Err c = let n = c.args.expected in ap (same_number n) c.in-Err.ensures.reply
