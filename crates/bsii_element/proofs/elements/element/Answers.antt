-- shape_of is the one of the definitions, so each arm is the value_parser of its shape. In an array the value was accepted first, which is all that in_array asks;
-- a value that is refused, or a type that is not listed, is refused by of_value with the same fault.
use mathlib.Core.Path.{sym, ap, ◌∙◌}
use mathlib.Core.Option.{Option, some}
use Rattle.bsii_format.specs.Replies.{refuses}
use Rattle.bsii_format.specs.Reader.{fail}
use Rattle.bsii_format.specs.Types.{Shape, many}
use Rattle.bsii_format.specs.Values.{shape_parser, value_parser}
use Rattle.bsii_format.specs.Calls.{of_value, element_call}
use Rattle.bsii_string.proofs.Passed.{passed_on}
use Rattle.std.specs.Prelude.{Some}
use Rattle.bsii_string.specs.Answers.{fault_is}
use Rattle.bsii_string.specs.declared.answers.Refusal.{Refusal}
use Rattle.bsii_value.specs.Kinds.{kind_is, shape_is}
use Rattle.bsii_value.specs.declared.types.Shape.{Shape as ShapeOf}
use Rattle.bsii_element.proofs.Call.{value_fault}
use Rattle.bsii_element.proofs.elements.element.Goals as goal

pub array_end-requires : goal.array_end-requires
array_end-requires c = ap (λ (k : ShapeOf). shape_is (Some k)) (sym c.in-Many.is) ∙ c.in-Some.ensures

pub returns-in-One : goal.returns-in-One
unfolding element_call value_parser
returns-in-One c =
    let a = c.args in
    c.single.ensures ∙ ap (λ (o : Option Shape). of_value a.index (shape_parser o 0 a.part.now)) (ap (λ (k : ShapeOf). shape_is (Some k)) (sym c.in-One.is) ∙ c.in-Some.ensures)

pub returns-in_ok-array_end-in-Many : goal.returns-in_ok-array_end-in-Many
unfolding element_call value_parser
returns-in_ok-array_end-in-Many c =
    let a = c.args in
    c.in_array.ensures _ c.in_ok-array_end-in-Many.ensures
    ∙ ap (λ (o : Option Shape). of_value a.index (shape_parser o 0 a.part.now)) (ap (λ (k : ShapeOf). shape_is (Some k)) (sym c.in-Many.is) ∙ c.in-Some.ensures)

pub returns-in_err-array_end-in-Many : goal.returns-in_err-array_end-in-Many
unfolding element_call value_parser
returns-in_err-array_end-in-Many c =
    let a = c.args in
    rw (passed_on c.from_residual.ensures.1) (
    value_fault a.index (shape_parser (some (many (kind_is c.in-Many.kind))) 0 a.part.now) c.in_err-array_end-in-Many.ensures
    ∙ ap (λ (o : Option Shape). of_value a.index (shape_parser o 0 a.part.now)) (ap (λ (k : ShapeOf). shape_is (Some k)) (sym c.in-Many.is) ∙ c.in-Some.ensures))

pub returns-in_default : goal.returns-in_default
unfolding element_call value_parser shape_parser fail of_value
returns-in_default c =
    let a = c.args in
    ap (λ (f : Refusal). refuses (fault_is f)) c.refused.ensures ∙ ap (λ (o : Option Shape). of_value a.index (shape_parser o 0 a.part.now)) (ap shape_is (sym c.in_default.is) ∙ c.shape_of.ensures)
