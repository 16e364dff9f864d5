-- `skip_element`: each kind by its own function.
use mathlib.Core.Path.{sym, ap, ◌∙◌}
use lib.ListN.{drop}
use Rattle.bsii_string.specs.Answers.{end_of}
use Rattle.bsii_value.specs.Kinds.{numeric_is, kind_is}
use Rattle.bsii_value.specs.declared.types.Kind.{Kind}
use Rattle.bsii_skip.specs.Unchecked.{unchecked_element}
use Rattle.bsii_skip.proofs.Skips.{numbers_same, string_end, word_once}
use Rattle.bsii_skip.proofs.skip_element.Goals as goal

pub returns-in-Numbers : goal.returns-in-Numbers
returns-in-Numbers c =
    let a = c.args in
    c.numeric_end.ensures
    ∙ numbers_same (numeric_is c.in-Numbers.n) a.at (drop a.at a.s.now)
    ∙ ap (λ (k : Kind). end_of (unchecked_element (kind_is k) a.at (drop a.at a.s.now))) (sym c.in-Numbers.is)

pub returns-in-String : goal.returns-in-String
returns-in-String c =
    let a = c.args in
    c.skip_str.ensures ∙ sym (string_end a.at (drop a.at a.s.now)) ∙ ap (λ (k : Kind). end_of (unchecked_element (kind_is k) a.at (drop a.at a.s.now))) (sym c.in-String.is)

pub returns-in-EncodedString : goal.returns-in-EncodedString
returns-in-EncodedString c =
    let a = c.args in
    c.numbers_end.ensures ∙ sym (word_once a.at (drop a.at a.s.now)) ∙ ap (λ (k : Kind). end_of (unchecked_element (kind_is k) a.at (drop a.at a.s.now))) (sym c.in-EncodedString.is)

pub returns-in-Id : goal.returns-in-Id
unfolding unchecked_element
returns-in-Id c =
    let a = c.args in
    c.skip_id.ensures ∙ ap (λ (k : Kind). end_of (unchecked_element (kind_is k) a.at (drop a.at a.s.now))) (sym c.in-Id.is)
