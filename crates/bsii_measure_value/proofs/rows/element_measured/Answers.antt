use mathlib.Core.Path.{sym, ap, ◌∙◌}
use lib.ListN.{drop}
use Rattle.bsii_format.specs.Values.{element_parser}
use Rattle.bsii_value.specs.Kinds.{kind_is}
use Rattle.bsii_value.specs.declared.types.Kind.{Kind}
use Rattle.bsii_measure_string.specs.Measured.{measured, element_size}
use Rattle.bsii_measure_value.proofs.ElementMeasures.{string_element, word_element, id_element}
use Rattle.bsii_measure_value.proofs.rows.element_measured.Goals as goal

pub returns-in-Numbers : goal.returns-in-Numbers
returns-in-Numbers c =
    let a = c.args in
    c.numeric_measured.ensures ∙ ap (λ (k : Kind). measured element_size (element_parser (kind_is k) a.at (drop a.at a.s.now))) (sym c.in-Numbers.is)

pub returns-in-String : goal.returns-in-String
returns-in-String c =
    let a = c.args in
    c.string_measured.ensures ∙ string_element a.at (drop a.at a.s.now) ∙ ap (λ (k : Kind). measured element_size (element_parser (kind_is k) a.at (drop a.at a.s.now))) (sym c.in-String.is)

pub returns-in-EncodedString : goal.returns-in-EncodedString
returns-in-EncodedString c =
    let a = c.args in
    c.encoded_measured.ensures ∙ word_element a.at (drop a.at a.s.now) ∙ ap (λ (k : Kind). measured element_size (element_parser (kind_is k) a.at (drop a.at a.s.now))) (sym c.in-EncodedString.is)

pub returns-in-Id : goal.returns-in-Id
returns-in-Id c =
    let a = c.args in
    c.id_measured.ensures ∙ id_element a.at (drop a.at a.s.now) ∙ ap (λ (k : Kind). measured element_size (element_parser (kind_is k) a.at (drop a.at a.s.now))) (sym c.in-Id.is)
