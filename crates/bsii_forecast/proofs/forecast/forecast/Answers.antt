-- The figures as they were foreseen; clearing leaves zeros in a table of the same length.
use mathlib.Core.Path.{ap, ◌∙◌}
use native.Mathlib.Omega.{arith}
use lib.ListN.{replicate}
use Rattle.bsii_string.proofs.Passed.{passed_on}
use Rattle.bsii_forecast.proofs.ForeseeLaws.{figures_fit, table_size_law, call_refused, call_gives}
use Rattle.bsii_forecast.proofs.forecast.forecast.Goals as goal

pub returns-in_err-a : goal.returns-in_err-a
returns-in_err-a c =
    let k = c.in_err-a.ensures in
    rw (passed_on c.from_residual.ensures.1) (record { reply = call_refused k; zeros = c.clear.ensures ∙ ap (λ n. replicate n 0) (table_size_law k) })

pub overflow_mul-result : goal.overflow_mul-result
overflow_mul-result c = let f = figures_fit c.in_ok-a.ensures in omega (arith, f.0)

pub overflow_mul-result-3 : goal.overflow_mul-result-3
overflow_mul-result-3 c = let f = figures_fit c.in_ok-a.ensures in omega (arith, f.1)

pub returns : goal.returns
returns c =
    let k = c.in_ok-a.ensures in
    record { reply = call_gives k; zeros = c.clear.ensures ∙ ap (λ n. replicate n 0) (table_size_law k) }
