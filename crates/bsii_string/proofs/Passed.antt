-- What a `?` hands on is the refusal that it met.
use mathlib.Core.Path.{◌≡◌, ap, ◌∙◌}
use Rattle.std.specs.Result.{IsErrAnd}
use Rattle.std.specs.Prelude.{Result, Err}
use Rattle.std.proofs.lemmas.Result.{err_from_is_err_and}

pub passed_on : {T E : Type 0} {r : Result T E} {f : E} → IsErrAnd r (λ e. e ≡ f) → r ≡ Err f
passed_on {r = r} h = let p = err_from_is_err_and r h in p.1 ∙ ap Err p.2
