-- What `.ok()?` says of the answer that it met.
use mathlib.Core.Path.{◌≡◌}
use Rattle.std.specs.Prelude.{Ok, Err, Some, None, Result as Outcome}
use Rattle.std.specs.Result.{result_ok}

pub ok_some : {T E : Type 0} {a : T} (r : Outcome T E) → Some a ≡ result_ok r → r ≡ Ok a
ok_some (Ok b) e = cc
ok_some (Err f) e = cc

pub ok_none : {T E : Type 0} (r : Outcome T E) → None ≡ result_ok r → (f : E) × (r ≡ Err f)
ok_none (Ok b) e = cc
ok_none (Err f) e = (f, cc)
