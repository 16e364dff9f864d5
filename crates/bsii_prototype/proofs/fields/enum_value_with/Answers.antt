-- `fields::enum_value_with`: A pair ends where its string does.
use mathlib.Core.Path.{sym, ap, ◌∙◌}
use lib.ListN.{drop}
use Rattle.bsii_string.specs.Answers.{end_of}
use Rattle.bsii_string.proofs.Passed.{passed_on}
use Rattle.bsii_prototype.proofs.Entries.{pair_short, pair_more}
use Rattle.bsii_prototype.proofs.fields.enum_value_with.Goals as goal

pub returns-in_err-next : goal.returns-in_err-next
unfolding end_of
returns-in_err-next g c =
    let a = c.args in
    rw (passed_on c.from_residual.ensures.1) (sym (ap end_of (pair_short g.S.Strings.reader a.at (drop a.at a.s.now) (sym c.in_err-next.ensures))))

pub returns : goal.returns
returns g c =
    let a = c.args in
    c.end.ensures ∙ sym (pair_more g.S.Strings.reader a.at (drop a.at a.s.now) (sym c.in_ok-next.ensures))
