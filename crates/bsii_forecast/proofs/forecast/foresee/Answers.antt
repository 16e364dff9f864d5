-- A file that was read is what the length is told of; bytes below 256 and a file within the limit bound its text. Its own fault comes first, then the text's.
use native.Mathlib.Omega.{arith}
use Rattle.bsii_string.proofs.Passed.{passed_on}
use Rattle.bsii_file.proofs.Rereading.{readable}
use Rattle.bsii_forecast.proofs.ForeseeLaws.{file_refused, walk_read, text_refused, text_foreseen}
use borrow.Author.Rules.{rules}
use Rattle.bsii_forecast.proofs.forecast.foresee.Goals as goal

pub returns-in_err-totals : goal.returns-in_err-totals
returns-in_err-totals c = let a = c.args in rw (passed_on c.from_residual.ensures.1) (file_refused a.file.now a.table.now c.in_err-totals.ensures (search rules))

pub text_length-requires : goal.text_length-requires
text_length-requires c = let a = c.args in readable (walk_read a.file.now a.table.now c.in_ok-totals.ensures)

pub returns-in_err-text : goal.returns-in_err-text
returns-in_err-text c =
    let a = c.args in
    rw (passed_on c.from_residual-in_err-text.ensures.1)
    (text_refused a.file.now a.table.now c.in_ok-totals.ensures (λ i. omega (arith, c.type_inv.file i)) c.in_err-text.ensures (search rules))

pub returns : goal.returns
returns c = let a = c.args in text_foreseen a.file.now a.table.now c.in_ok-totals.ensures (λ i. omega (arith, c.type_inv.file i)) c.in_ok-text.ensures (search rules)
