-- `heads::header_parser`: The law of the arm that was taken.
use mathlib.Core.Path.{sym, ◌∙◌}
use Rattle.bsii_string.proofs.Passed.{passed_on}
use Rattle.bsii_prototype.proofs.Beginnings.{header_not, header_rest, header_version}
use Rattle.bsii_prototype.proofs.heads.header_parser.Goals as goal

pub returns-then-not-tag : goal.returns-then-not-tag
returns-then-not-tag c = let s = c.args.s.now in rw c.refused.ensures (sym (header_not s (sym c.tag.ensures ∙ c.if-not-tag.true)))

pub returns-in_err-version : goal.returns-in_err-version
returns-in_err-version c =
    let s = c.args.s.now in
    let h = sym c.tag.ensures ∙ c.if-not-tag.false in
    rw (passed_on c.from_residual.ensures.1) (sym (header_rest s h ∙ sym c.in_err-version.ensures))

pub returns : goal.returns
returns c =
    let s = c.args.s.now in
    let h = sym c.tag.ensures ∙ c.if-not-tag.false in
    sym (header_version s h (sym c.in_ok-version.ensures))
