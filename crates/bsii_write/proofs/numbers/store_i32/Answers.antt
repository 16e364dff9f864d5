use mathlib.Core.Path.{ap}
use Rattle.bsii_format.specs.Text.{int32_text}
use Rattle.bsii_window.proofs.Stores.{stored_being}
use Rattle.bsii_write.proofs.numbers.store_i32.Goals as goal

pub returns : goal.returns
returns c = (stored_being (ap int32_text c.from.ensures) c.store_signed.ensures.0, c.store_signed.ensures.1)
