use mathlib.Core.Option.{Option, some}
use mathlib.Core.Path.{sym, ap, ◌∙◌}
use Rattle.bsii_format.specs.Types.{Shape, many}
use Rattle.bsii_format.specs.Values.{shape_parser, value_parser}
use Rattle.bsii_string.specs.Answers.{end_of}
use Rattle.bsii_value.specs.Kinds.{kind_is}
use Rattle.bsii_value.specs.declared.types.Kind.{Kind}
use Rattle.bsii_element.proofs.elements.array_end.Goals as goal

pub returns-in-Numbers : goal.returns-in-Numbers
returns-in-Numbers c =
    let a = c.args in
    c.number_array.ensures ∙ ap (λ (k : Kind). end_of (shape_parser (some (many (kind_is k))) 0 a.part.now)) (sym c.in-Numbers.is)

pub returns : goal.returns
unfolding value_parser
returns c = c.value_parser.ensures ∙ ap (λ (o : Option Shape). end_of (shape_parser o 0 c.args.part.now)) (sym c.requires)
