use mathlib.Core.Path.{ap, ◌∙◌}
use native.Mathlib.Omega.{arith}
use lib.ListN.{replicate}
use Rattle.bsii_string.proofs.Passed.{passed_on}
use Rattle.bsii_index.proofs.Checking.{compared_size, compared_few, compared_fits, compared_refused}
use Rattle.bsii_index.proofs.check.check_index.Goals as goal

pub fitting-requires : goal.fitting-requires
fitting-requires c = ((omega arith, omega arith), compared_few c.in_ok-compared.ensures)

pub returns-in_err-compared : goal.returns-in_err-compared
returns-in_err-compared c =
    record {
      reply = rw (passed_on c.from_residual.ensures.1) (compared_refused c.in_err-compared.ensures);
      zeros = c.clear.ensures ∙ ap (λ n. replicate n 0) (compared_size c.in_err-compared.ensures);
    }

pub returns : goal.returns
returns c =
    let r = c.in_ok-compared.ensures in
    record { reply = compared_fits r c.fitting.ensures; zeros = c.clear.ensures ∙ ap (λ n. replicate n 0) (compared_size r) }
