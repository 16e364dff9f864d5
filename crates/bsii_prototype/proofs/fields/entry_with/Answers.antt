-- `fields::entry_with`: The law of the arm that was taken.
use mathlib.Core.Path.{sym, ap, ◌∙◌}
use Prim.Native.Nat.{◌+◌}
use lib.ListN.{drop}
use Rattle.bsii_string.proofs.Passed.{passed_on}
use Rattle.bsii_prototype.specs.Answers.{entry_of}
use Rattle.bsii_prototype.proofs.Entries.{entry_short, entry_last, definition_entry}
use Rattle.bsii_prototype.proofs.fields.entry_with.Goals as goal

pub returns-then-type_id-eq0 : goal.returns-then-type_id-eq0
unfolding entry_of
returns-then-type_id-eq0 g c =
    let a = c.args in
    sym (ap (entry_of (a.at + 8)) (entry_last g.S.Strings.reader a.at (drop a.at a.s.now) (sym c.in_ok-type_id.ensures) c.if-type_id-eq0.true))

pub returns-in_err-type_id : goal.returns-in_err-type_id
unfolding entry_of
returns-in_err-type_id g c =
    let a = c.args in
    rw (passed_on c.from_residual.ensures.1) (sym (ap (entry_of (a.at + 8)) (entry_short g.S.Strings.reader a.at (drop a.at a.s.now) (sym c.in_err-type_id.ensures))))

pub returns : goal.returns
returns g c =
    let a = c.args in
    c.definition_with.ensures ∙ definition_entry g.S.Strings.reader a.s.now a.at (sym c.in_ok-type_id.ensures) c.if-type_id-eq0.false
