-- `skip::fields_at`: Nine bytes, and a string that is not checked.
use mathlib.Core.Path.{sym, ap, ◌∙◌}
use Rattle.bsii_string.proofs.Passed.{passed_on}
use Rattle.bsii_string.specs.Answers.{end_of}
use Rattle.bsii_prototype.proofs.Beginnings.{past_short, past_string}
use Rattle.bsii_prototype.proofs.skip.fields_at.Goals as goal

pub returns-in_err-name : goal.returns-in_err-name
returns-in_err-name c = let a = c.args in rw (passed_on c.from_residual.ensures.1) (past_short a.s.now a.offset c.in_err-name.ensures)

pub returns : goal.returns
returns c = let a = c.args in c.skip_str.ensures ∙ sym (ap end_of (past_string a.s.now a.offset c.in_ok-name.ensures))
