-- `words::id_parser`: The first byte says whether a number follows, or that many words.
use mathlib.Core.Path.{sym, ap, ◌∙◌}
use lib.ListN.{drop}
use Rattle.bsii_string.specs.Answers.{end_of}
use Rattle.bsii_string.proofs.Passed.{passed_on}
use Rattle.bsii_word.proofs.WordLaws.{id_short, id_nameless, id_named}
use Rattle.bsii_word.proofs.words.id_parser.Goals as goal

pub returns-in_err-n : goal.returns-in_err-n
unfolding end_of
returns-in_err-n c =
    let a = c.args in
    rw (passed_on c.from_residual.ensures.1) (sym (ap end_of (id_short (drop a.at a.s.now) a.at (sym c.in_err-n.ensures))))

pub returns-then-n-eq255 : goal.returns-then-n-eq255
returns-then-n-eq255 c =
    let a = c.args in
    c.u64_end.ensures ∙ sym (id_nameless (drop a.at a.s.now) a.at _ _ _ (sym c.in_ok-n.ensures) c.if-n-eq255.true)

pub returns : goal.returns
returns c =
    let a = c.args in
    c.row_end.ensures ∙ sym (id_named (drop a.at a.s.now) a.at _ _ _ (sym c.in_ok-n.ensures) c.if-n-eq255.false)
