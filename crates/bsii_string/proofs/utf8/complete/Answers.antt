-- `utf8::complete`: Of the states only the first has nothing to come.
use mathlib.Core.Path.{sym, ap}
use Rattle.bsii_format.specs.Utf8.{complete}
use Rattle.bsii_string.specs.States.{to_come}
use Rattle.bsii_string.specs.declared.utf8.State.{State}
use Rattle.bsii_string.proofs.Sequences.{not_between}
use Rattle.bsii_string.proofs.utf8.complete.Goals as goal

pub returns-in-Between : goal.returns-in-Between
unfolding complete
returns-in-Between c = ap (λ (q : State). complete (to_come q)) (sym c.in-Between.is)

pub returns-in_default : goal.returns-in_default
returns-in_default c = sym (not_between c.args.state c.in_default.not-Between)
