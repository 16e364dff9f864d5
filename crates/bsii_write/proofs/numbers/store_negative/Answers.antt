use native.Mathlib.Omega.{arith}
use Rattle.bsii_window.proofs.Stores.{stored_then}
use Rattle.bsii_write.proofs.numbers.store_negative.Goals as goal

pub returns : goal.returns
returns c = (stored_then c.store_byte-next.ensures c.store_decimal.ensures.0, omega arith)
