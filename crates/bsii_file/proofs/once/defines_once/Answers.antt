use mathlib.Core.Path.{ap, ◌∙◌}
use lib.ListN.{replicate}
use Rattle.bsii_string.proofs.Passed.{passed_on}
use Rattle.bsii_parse.proofs.Whole.{read_size}
use Rattle.bsii_file.proofs.DefinedOnce.{once_answer, once_refused}
use Rattle.bsii_file.proofs.once.defines_once.Goals as goal

pub returns-in_err-totals : goal.returns-in_err-totals
returns-in_err-totals c =
    let r = c.in_err-totals.ensures in
    record { reply = rw (passed_on c.from_residual.ensures.1) (once_refused r); zeros = c.clear.ensures ∙ ap (λ n. replicate n 0) (read_size r) }

pub returns : goal.returns
returns c =
    let r = c.in_ok-totals.ensures in
    record { reply = once_answer r c.from.ensures; zeros = c.clear.ensures ∙ ap (λ n. replicate n 0) (read_size r) }
