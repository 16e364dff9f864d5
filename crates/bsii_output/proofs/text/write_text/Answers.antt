-- What was foreseen is the file's text, or its refusal; the table that is left serves the walk that writes.
use Rattle.bsii_string.proofs.Passed.{passed_on}
use Rattle.bsii_output.proofs.TextLaws.{call_refused, foreseen_readable, call_written}
use Rattle.bsii_output.proofs.text.write_text.Goals as goal

pub returns-in_err-figures : goal.returns-in_err-figures
returns-in_err-figures c = rw (passed_on c.from_residual.ensures.1) (call_refused c.in_err-figures.ensures c.args.output.now)

pub write_foreseen-requires : goal.write_foreseen-requires
write_foreseen-requires c = foreseen_readable c.in_ok-figures.ensures

pub returns : goal.returns
returns c = call_written c.in_ok-figures.ensures c.write_foreseen.ensures
