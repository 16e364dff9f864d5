-- The array was accepted, so its row has as many elements as the count says, and the walk that checks nothing ends where they do: an index below
-- the count finds its element there and never a fault, and one from the count on finds none.
use mathlib.Core.Path.{ap, ◌∙◌}
use native.Mathlib.Omega.{arith}
use Rattle.bsii_format.specs.Replies.{refuses}
use Rattle.bsii_string.specs.Answers.{fault_is}
use Rattle.bsii_string.specs.declared.answers.Refusal.{Refusal}
use Rattle.bsii_value.specs.Kinds.{kind_is}
use Rattle.bsii_element.proofs.Call.{array_absent, array_element, array_ends}
use Rattle.bsii_element.proofs.elements.in_array.Goals as goal

pub returns-then-count-index : goal.returns-then-count-index
returns-then-count-index c =
    λ n e.
    let a = c.args in
    ap (λ (f : Refusal). refuses (fault_is f)) c.refused.ensures ∙ array_absent (kind_is a.kind) a.part.now e a.index (omega arith)

pub returns : goal.returns
returns c =
    λ n e.
    let a = c.args in
    c.decode.ensures ∙ array_element (kind_is a.kind) a.part.now e a.index (omega arith) c.in_ok-start.ensures

pub returns-in_err-start : goal.returns-in_err-start
returns-in_err-start c =
    λ n e.
    let a = c.args in
    array_ends (kind_is a.kind) a.part.now e a.index (omega arith) c.in_err-start.ensures
