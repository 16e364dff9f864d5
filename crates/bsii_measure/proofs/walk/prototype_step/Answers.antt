-- As the reading walk's step, and a step more: a prototype has no text.
use Rattle.bsii_string.proofs.Passed.{passed_on}
use Rattle.bsii_parse.proofs.Passing.{list_parsed, defining_fault, defining_full, defining_row}
use Rattle.bsii_measure.proofs.StepLaws.{sum_defined, sum_undefined}
use Rattle.bsii_measure.proofs.walk.prototype_step.Goals as goal

pub returns-in_err-list : goal.returns-in_err-list
returns-in_err-list c = rw (passed_on c.from_residual.ensures.1) (sum_undefined c.args.tally (defining_fault (list_parsed c.in_err-list.ensures)))

pub returns-in_default : goal.returns-in_default
returns-in_default c =
    let a = c.args in
    rw c.refused.ensures (sum_undefined a.tally (defining_full (list_parsed c.in_ok-list.ensures) c.define.ensures c.in_default.is))

pub returns : goal.returns
returns c = sum_defined c.args.tally (defining_row (list_parsed c.in_ok-list.ensures) c.define.ensures c.in-Some.is) c.requires.0
