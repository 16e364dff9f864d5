-- `fields::enum_values_with`: The law of the arm that was taken.
use mathlib.Core.Path.{sym, ap, ◌∙◌}
use lib.ListN.{drop}
use Rattle.bsii_string.specs.Answers.{end_of}
use Rattle.bsii_string.proofs.Passed.{passed_on}
use Rattle.bsii_prototype.proofs.Entries.{list_none, list_short, list_more}
use Rattle.bsii_prototype.proofs.fields.enum_values_with.Goals as goal

pub returns-then-type_id-ne55 : goal.returns-then-type_id-ne55
unfolding end_of
returns-then-type_id-ne55 g c = let a = c.args in sym (ap end_of (list_none g.S.Strings.reader a.at (drop a.at a.s.now) a.type_id c.if-type_id-ne55.true))

pub returns-in_err-n : goal.returns-in_err-n
unfolding end_of
returns-in_err-n g c =
    let a = c.args in
    rw (passed_on c.from_residual.ensures.1) (sym (ap end_of (list_short g.S.Strings.reader a.at (drop a.at a.s.now) a.type_id c.if-type_id-ne55.false (sym c.in_err-n.ensures))))

pub returns : goal.returns
returns g c =
    let a = c.args in
    c.row_end.ensures ∙ sym (ap end_of (list_more g.S.Strings.reader a.at (drop a.at a.s.now) a.type_id c.if-type_id-ne55.false (sym c.in_ok-n.ensures)))
