-- whole_number keeps the text: what number_text makes of its answer is float_text of the bits, so either arm stores that.
use native.Mathlib.Omega.{arith}
use Rattle.bsii_window.proofs.Stores.{stored_being}
use Rattle.bsii_float_text.proofs.store_float.Goals as goal

pub returns-in-Some : goal.returns-in-Some
returns-in-Some c = (stored_being c.in-Some.ensures c.store_whole.ensures.0, omega arith)

pub returns-in-None : goal.returns-in-None
returns-in-None c = (stored_being c.in-None.ensures c.store_bits.ensures.0, omega arith)
