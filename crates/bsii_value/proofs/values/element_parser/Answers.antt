-- `values::element_parser`: Each kind's reader ends where its own parser does; wrapping the value changes no end.
use mathlib.Core.Path.{sym, ap, ◌∙◌}
use lib.ListN.{drop}
use Rattle.bsii_format.specs.Values.{str, word, ident, element_parser}
use Rattle.bsii_format.specs.Strings.{str_parser, encoded_str_parser, id_parser}
use Rattle.bsii_string.specs.Answers.{end_of}
use Rattle.bsii_string.proofs.Ends.{mapped}
use Rattle.bsii_value.specs.Kinds.{kind_is}
use Rattle.bsii_value.specs.declared.types.Kind.{Kind}
use Rattle.bsii_value.proofs.values.element_parser.Goals as goal

pub returns-in-Numbers : goal.returns-in-Numbers
returns-in-Numbers c =
    let a = c.args in
    c.numeric_end.ensures ∙ ap (λ (k : Kind). end_of (element_parser (kind_is k) a.at (drop a.at a.s.now))) (sym c.in-Numbers.is)

pub returns-in-String : goal.returns-in-String
unfolding element_parser
returns-in-String c =
    let a = c.args in
    c.str_end.ensures ∙ sym (mapped str str_parser a.at (drop a.at a.s.now)) ∙ ap (λ (k : Kind). end_of (element_parser (kind_is k) a.at (drop a.at a.s.now))) (sym c.in-String.is)

pub returns-in-EncodedString : goal.returns-in-EncodedString
unfolding element_parser
returns-in-EncodedString c =
    let a = c.args in
    c.word_end.ensures ∙ sym (mapped word encoded_str_parser a.at (drop a.at a.s.now)) ∙ ap (λ (k : Kind). end_of (element_parser (kind_is k) a.at (drop a.at a.s.now))) (sym c.in-EncodedString.is)

pub returns-in-Id : goal.returns-in-Id
unfolding element_parser
returns-in-Id c =
    let a = c.args in
    c.id_parser.ensures ∙ sym (mapped ident id_parser a.at (drop a.at a.s.now)) ∙ ap (λ (k : Kind). end_of (element_parser (kind_is k) a.at (drop a.at a.s.now))) (sym c.in-Id.is)
