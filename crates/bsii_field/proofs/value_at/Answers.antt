use Rattle.bsii_field.proofs.Values.{go_none, go_fault, go_here}
use Rattle.bsii_field.proofs.value_at.Goals as goal

pub returns-in_default-skip_value : goal.returns-in_default-skip_value
returns-in_default-skip_value c = go_fault c.loop-found.invariant.1 c.in-Some.ensures.1 c.in_default-skip_value.ensures

pub returns-then-passed-index : goal.returns-then-passed-index
returns-then-passed-index c = go_here c.loop-found.invariant.1 c.in-Some.ensures.1 c.in-Ok.ensures c.if-passed-index.true

pub returns : goal.returns
returns c = go_none c.loop-found.invariant.1 c.in_default.ensures
