use native.Mathlib.Omega.{arith}
use Rattle.bsii_format.specs.Floats.{bits_text}
use Rattle.bsii_window.proofs.Stores.{stored_then}
use Rattle.bsii_float_text.proofs.store_bits.Goals as goal

pub returns : goal.returns
unfolding bits_text
returns c = (stored_then c.store_byte-next.ensures c.store_hex.ensures.0, omega arith)
