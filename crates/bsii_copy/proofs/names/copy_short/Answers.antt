use native.Mathlib.Omega.{arith}
use Rattle.bsii_copy.proofs.Copies.{last_stored}
use Rattle.bsii_copy.proofs.names.copy_short.Goals as goal

pub returns : goal.returns
returns c =
    let a = c.args in
    let f = c.copy_front-last in
    last_stored a.out.now a.start a.name.now 8 f.result (omega arith) f.ensures.2 f.ensures.1 f.ensures.0 c.copy_piece.ensures
