-- `fields::fields_parser`: With strings that are checked the definitions are the format's.
use mathlib.Core.Path.{sym, ap, ◌∙◌}
use lib.ListN.{drop}
use Rattle.bsii_prototype.specs.Answers.{count_of}
use Rattle.bsii_prototype.proofs.Unchecked.{checked_fields}
use Rattle.bsii_prototype.proofs.fields.fields_parser.Goals as goal

pub returns : goal.returns
returns c =
    let a = c.args in
    c.fields_with.ensures ∙ sym (ap count_of (checked_fields a.start (drop a.start a.s.now)))
