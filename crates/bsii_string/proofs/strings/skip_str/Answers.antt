-- `strings::skip_str`: The length is read, then its bytes are passed.
use mathlib.Core.Path.{sym, ap, ◌∙◌}
use lib.ListN.{drop}
use Rattle.bsii_string.proofs.Passed.{passed_on}
use Rattle.bsii_string.specs.Answers.{end_of}
use Rattle.bsii_string.proofs.Texts.{unchecked_short, unchecked_rest}
use Rattle.bsii_string.proofs.strings.skip_str.Goals as goal

pub returns-in_err-n : goal.returns-in_err-n
unfolding end_of
returns-in_err-n c =
    let a = c.args in
    rw (passed_on c.from_residual.ensures.1) (sym (ap end_of (unchecked_short (drop a.at a.s.now) a.at (sym c.in_err-n.ensures))))

pub returns : goal.returns
returns c =
    let a = c.args in
    c.bytes_end.ensures ∙ sym (ap end_of (unchecked_rest a.s.now a.at c.in_ok-n.n c.in_ok-n.start (sym c.in_ok-n.ensures)))
