use mathlib.Core.Path.{sym}
use native.Mathlib.Omega.{arith}
use Rattle.bsii_write_id.proofs.IdLaws.{nameless_length}
use Rattle.bsii_write_id.proofs.ids.nameless_length.Goals as goal

pub returns : goal.returns
returns c = let k = c.hex_count-digits in (sym (nameless_length c.args.n k.result (omega arith) (sym k.ensures.0)), omega arith)
