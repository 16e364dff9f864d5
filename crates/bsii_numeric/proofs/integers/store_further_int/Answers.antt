use native.Mathlib.Omega.{arith}
use Rattle.bsii_window.proofs.Stores.{stored_then}
use Rattle.bsii_numeric.proofs.integers.store_further_int.Goals as goal

pub returns : goal.returns
returns c = (stored_then c.store_text-next.ensures c.store_i32.ensures.0, omega arith)
