-- The shape of the type says which value value_parser accepts: a single one has the line of its kind; an array is write_array's; a type without a shape
-- has no value.
use mathlib.Core.Path.{sym, ap, ◌∙◌}
use mathlib.Core.Option.{some}
use Rattle.std.specs.Prelude.{Some}
use Rattle.bsii_format.specs.Types.{one}
use Rattle.bsii_value.specs.Kinds.{kind_is, shape_is}
use Rattle.bsii_value.specs.declared.types.Kind.{Kind}
use Rattle.bsii_value.specs.declared.types.Shape.{Shape}
use Rattle.bsii_lines.proofs.ArrayLaws.{field_unlisted, field_single, field_array}
use Rattle.bsii_lines.proofs.fields.write_field.Goals as goal

pub returns-in_err-shape : goal.returns-in_err-shape
returns-in_err-shape c = let a = c.args in rw c.from_residual.ensures (field_unlisted a.s.now a.at a.type_id a.d c.in_err-shape.ensures)

pub returns-in-Numbers : goal.returns-in-Numbers
returns-in-Numbers c = let a = c.args in field_single a.s.now a.at a.type_id a.d (sym c.in_ok-shape.ensures ∙ ap (λ (x : Shape). shape_is (Some x)) c.in-One.is ∙ ap (λ (k : Kind). some (one (kind_is k))) c.in-Numbers.is) c.write_number.ensures

pub returns-in-String : goal.returns-in-String
returns-in-String c = let a = c.args in field_single a.s.now a.at a.type_id a.d (sym c.in_ok-shape.ensures ∙ ap (λ (x : Shape). shape_is (Some x)) c.in-One.is ∙ ap (λ (k : Kind). some (one (kind_is k))) c.in-String.is) c.write_string_value.ensures

pub returns-in-EncodedString : goal.returns-in-EncodedString
returns-in-EncodedString c = let a = c.args in field_single a.s.now a.at a.type_id a.d (sym c.in_ok-shape.ensures ∙ ap (λ (x : Shape). shape_is (Some x)) c.in-One.is ∙ ap (λ (k : Kind). some (one (kind_is k))) c.in-EncodedString.is) c.write_word.ensures

pub returns-in-Id : goal.returns-in-Id
returns-in-Id c = let a = c.args in field_single a.s.now a.at a.type_id a.d (sym c.in_ok-shape.ensures ∙ ap (λ (x : Shape). shape_is (Some x)) c.in-One.is ∙ ap (λ (k : Kind). some (one (kind_is k))) c.in-Id.is) c.write_id_value.ensures

pub returns-in-Many : goal.returns-in-Many
returns-in-Many c = let a = c.args in field_array a.s.now a.at a.type_id a.d (sym c.in_ok-shape.ensures ∙ ap (λ (x : Shape). shape_is (Some x)) c.in-Many.is) c.write_array.ensures
