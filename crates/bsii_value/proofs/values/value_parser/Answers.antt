-- `values::value_parser`: The shape that the table gives decides.
use mathlib.Core.Option.{Option}
use Rattle.std.specs.Prelude.{Some}
use mathlib.Core.Path.{sym, ap, ◌∙◌}
use lib.ListN.{drop}
use Rattle.bsii_format.specs.Reader.{fail}
use Rattle.bsii_format.specs.Types.{Shape}
use Rattle.bsii_format.specs.Values.{str, word, ident, element_parser, shape_parser, value_parser}
use Rattle.bsii_format.specs.Strings.{str_parser, encoded_str_parser, id_parser}
use Rattle.bsii_string.proofs.Ends.{mapped}
use Rattle.bsii_string.specs.Answers.{end_of}
use Rattle.bsii_value.specs.declared.types.Kind.{Kind}
use Rattle.bsii_value.specs.Kinds.{kind_is, shape_is}
use Rattle.bsii_value.proofs.Elements.{one_value}
use Rattle.bsii_value.proofs.values.value_parser.Goals as goal

pub returns-in-Numbers : goal.returns-in-Numbers
returns-in-Numbers c =
    let a = c.args in
    c.numeric_end.ensures ∙ ap (λ (k : Kind). end_of (element_parser (kind_is k) a.at (drop a.at a.s.now))) (sym c.in-Numbers.is)
    ∙ one_value a.version a.type_id a.at (drop a.at a.s.now) (ap shape_is (sym (c.in-Some.is ∙ ap Some c.in-One.is)) ∙ c.shape_of.ensures)

pub returns-in-String : goal.returns-in-String
unfolding element_parser
returns-in-String c =
    let a = c.args in
    c.str_end.ensures ∙ sym (mapped str str_parser a.at (drop a.at a.s.now)) ∙ ap (λ (k : Kind). end_of (element_parser (kind_is k) a.at (drop a.at a.s.now))) (sym c.in-String.is)
    ∙ one_value a.version a.type_id a.at (drop a.at a.s.now) (ap shape_is (sym (c.in-Some.is ∙ ap Some c.in-One.is)) ∙ c.shape_of.ensures)

pub returns-in-EncodedString : goal.returns-in-EncodedString
unfolding element_parser
returns-in-EncodedString c =
    let a = c.args in
    c.word_end.ensures ∙ sym (mapped word encoded_str_parser a.at (drop a.at a.s.now)) ∙ ap (λ (k : Kind). end_of (element_parser (kind_is k) a.at (drop a.at a.s.now))) (sym c.in-EncodedString.is)
    ∙ one_value a.version a.type_id a.at (drop a.at a.s.now) (ap shape_is (sym (c.in-Some.is ∙ ap Some c.in-One.is)) ∙ c.shape_of.ensures)

pub returns-in-Id : goal.returns-in-Id
unfolding element_parser
returns-in-Id c =
    let a = c.args in
    c.id_parser.ensures ∙ sym (mapped ident id_parser a.at (drop a.at a.s.now)) ∙ ap (λ (k : Kind). end_of (element_parser (kind_is k) a.at (drop a.at a.s.now))) (sym c.in-Id.is)
    ∙ one_value a.version a.type_id a.at (drop a.at a.s.now) (ap shape_is (sym (c.in-Some.is ∙ ap Some c.in-One.is)) ∙ c.shape_of.ensures)

pub returns-in-Many : goal.returns-in-Many
unfolding value_parser
returns-in-Many c =
    let a = c.args in
    c.array_parser.ensures
    ∙ ap (λ (o : Option Shape). end_of (shape_parser o a.at (drop a.at a.s.now))) (ap shape_is (sym (c.in-Some.is ∙ ap Some c.in-Many.is)) ∙ c.shape_of.ensures)

pub returns-in_default : goal.returns-in_default
unfolding value_parser shape_parser fail end_of
returns-in_default c =
    let a = c.args in
    rw c.refused.ensures (ap (λ (o : Option Shape). end_of (shape_parser o a.at (drop a.at a.s.now))) c.in_default.ensures)
