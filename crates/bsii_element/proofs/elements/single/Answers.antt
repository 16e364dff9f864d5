-- A single value is a list of one element at 0: index 0 decodes it, any other index is absent once the value is accepted, and its fault is the
-- value's own.
use mathlib.Core.Path.{sym, ap, ◌∙◌}
use Prim.Native.Nat.{ℕ}
use mathlib.Core.Option.{some}
use Rattle.bsii_format.specs.Replies.{refuses}
use Rattle.bsii_format.specs.Types.{one}
use Rattle.bsii_format.specs.Values.{shape_parser}
use Rattle.bsii_format.specs.Calls.{of_value}
use Rattle.bsii_string.proofs.Passed.{passed_on}
use Rattle.bsii_string.specs.Answers.{fault_is}
use Rattle.bsii_string.specs.declared.answers.Refusal.{Refusal}
use Rattle.bsii_value.specs.Kinds.{kind_is}
use Rattle.bsii_value.proofs.Elements.{one_end}
use Rattle.bsii_element.proofs.Call.{value_fault, single_first, single_other}
use Rattle.bsii_element.proofs.elements.single.Goals as goal

pub returns-then-index-eq0 : goal.returns-then-index-eq0
returns-then-index-eq0 c =
    let a = c.args in
    c.decode.ensures ∙ single_first (kind_is a.kind) a.part.now ∙ ap (λ (i : ℕ). of_value i (shape_parser (some (one (kind_is a.kind))) 0 a.part.now)) (sym c.if-index-eq0.true)

pub returns : goal.returns
returns c =
    let a = c.args in
    ap (λ (f : Refusal). refuses (fault_is f)) c.refused.ensures ∙ single_other (kind_is a.kind) a.part.now a.index c.if-index-eq0.false c.in_ok-element_parser.ensures

pub returns-in_err-element_parser : goal.returns-in_err-element_parser
returns-in_err-element_parser c =
    let a = c.args in
    rw (passed_on c.from_residual.ensures.1) (value_fault a.index (shape_parser (some (one (kind_is a.kind))) 0 a.part.now) (c.in_err-element_parser.ensures ∙ sym (one_end (kind_is a.kind) 0 a.part.now)))
