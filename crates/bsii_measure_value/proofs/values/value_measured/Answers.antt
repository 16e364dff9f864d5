use mathlib.Core.Path.{sym, ap, ◌∙◌}
use native.Mathlib.Omega.{arith}
use Rattle.std.specs.Prelude.{Some}
use lib.ListN.{drop}
use Rattle.bsii_format.specs.Types.{numbers, string, encoded_string, id}
use Rattle.bsii_value.specs.Kinds.{numeric_is, shape_is}
use Rattle.bsii_value.specs.declared.types.Shape.{Shape}
use Rattle.bsii_measure_value.proofs.ElementMeasures.{string_element, word_element, id_element}
use Rattle.bsii_measure_value.proofs.ValueMeasures.{short_element, single_value, one_of, unlisted, value_by}
use Rattle.bsii_measure_value.proofs.values.value_measured.Goals as goal

pub line-requires : goal.line-requires
line-requires c =
    let a = c.args in
    (short_element a.s.now a.at (numbers (numeric_is c.in-Numbers.n)) (λ i. omega (arith, c.type_inv.s i)) (omega arith) c.numeric_measured.result c.numeric_measured.ensures, omega arith)

pub returns-in-Numbers : goal.returns-in-Numbers
returns-in-Numbers c =
    let a = c.args in
    value_by (one_of c.in-Some.ensures c.in-One.is c.in-Numbers.is)
    (single_value a.s.now a.at (numbers (numeric_is c.in-Numbers.n)) (λ i. omega (arith, c.type_inv.s i)) (omega arith) a.name (omega arith) c.numeric_measured.result c.numeric_measured.ensures c.line.ensures)

pub line-requires-in-String : goal.line-requires-in-String
line-requires-in-String c =
    let a = c.args in
    (short_element a.s.now a.at (string) (λ i. omega (arith, c.type_inv.s i)) (omega arith) c.string_measured.result (c.string_measured.ensures ∙ string_element a.at (drop a.at a.s.now)), omega arith)

pub returns-in-String : goal.returns-in-String
returns-in-String c =
    let a = c.args in
    value_by (one_of c.in-Some.ensures c.in-One.is c.in-String.is)
    (single_value a.s.now a.at (string) (λ i. omega (arith, c.type_inv.s i)) (omega arith) a.name (omega arith) c.string_measured.result (c.string_measured.ensures ∙ string_element a.at (drop a.at a.s.now)) c.line-in-String.ensures)

pub line-requires-in-EncodedString : goal.line-requires-in-EncodedString
line-requires-in-EncodedString c =
    let a = c.args in
    (short_element a.s.now a.at (encoded_string) (λ i. omega (arith, c.type_inv.s i)) (omega arith) c.encoded_measured.result (c.encoded_measured.ensures ∙ word_element a.at (drop a.at a.s.now)), omega arith)

pub returns-in-EncodedString : goal.returns-in-EncodedString
returns-in-EncodedString c =
    let a = c.args in
    value_by (one_of c.in-Some.ensures c.in-One.is c.in-EncodedString.is)
    (single_value a.s.now a.at (encoded_string) (λ i. omega (arith, c.type_inv.s i)) (omega arith) a.name (omega arith) c.encoded_measured.result (c.encoded_measured.ensures ∙ word_element a.at (drop a.at a.s.now)) c.line-in-EncodedString.ensures)

pub line-requires-in-Id : goal.line-requires-in-Id
line-requires-in-Id c =
    let a = c.args in
    (short_element a.s.now a.at (id) (λ i. omega (arith, c.type_inv.s i)) (omega arith) c.id_measured.result (c.id_measured.ensures ∙ id_element a.at (drop a.at a.s.now)), omega arith)

pub returns-in-Id : goal.returns-in-Id
returns-in-Id c =
    let a = c.args in
    value_by (one_of c.in-Some.ensures c.in-One.is c.in-Id.is)
    (single_value a.s.now a.at (id) (λ i. omega (arith, c.type_inv.s i)) (omega arith) a.name (omega arith) c.id_measured.result (c.id_measured.ensures ∙ id_element a.at (drop a.at a.s.now)) c.line-in-Id.ensures)

pub returns-in-Many : goal.returns-in-Many
returns-in-Many c = value_by (ap (λ (o : Shape). shape_is (Some o)) (sym c.in-Many.is) ∙ c.in-Some.ensures) c.array_measured.ensures

pub returns-in_default : goal.returns-in_default
returns-in_default c = let a = c.args in value_by c.in_default.ensures (unlisted a.s.now a.at a.name c.refused.ensures)
