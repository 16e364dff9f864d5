-- From four bytes on, the first four are stored and the last four over them: the name has at most eight, so no byte is left out (`last_stored`).
-- What is stored twice is the same byte both times.
use native.Mathlib.Omega.{arith}
use Rattle.bsii_copy.proofs.Copies.{last_stored}
use Rattle.bsii_copy.proofs.names.copy_below_eight.Goals as goal

pub returns : goal.returns
returns c =
    let a = c.args in
    last_stored a.out.now a.start a.name.now 4 4 (omega arith) (omega arith) (omega arith) c.copy_piece.ensures c.copy_piece-2.ensures
