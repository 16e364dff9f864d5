-- What `parse` answered is what `reading_call` gives, by its contract, and `same_reading` has the same two cases: a refusal's number, or the counts.
use Prim.Native.Nat.{ℕ}
use mathlib.Core.Path.{ap, ◌∙◌}
use lib.Dec.{eqb}
use Rattle.replay.specs.Agree.{same_reading}
use Rattle.replay.proofs.compare.same_reading.Goals as goal

pub returns-in-Err : goal.returns-in-Err
returns-in-Err c = let a = c.args in ap (λ (n : ℕ). eqb n a.reply) c.rust_number.ensures ∙ ap (same_reading a.reply a.prototypes a.blocks) c.in-Err.ensures.reply

pub returns-in-Ok : goal.returns-in-Ok
returns-in-Ok c = let a = c.args in c.same_counts.ensures ∙ ap (same_reading a.reply a.prototypes a.blocks) c.in-Ok.ensures.reply
