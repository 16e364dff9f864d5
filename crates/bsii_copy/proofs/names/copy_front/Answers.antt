-- Eight bytes stored behind the first i make the first i + 8 (`piece_stored`); the tests of the length, and its bound of 32, leave at most eight.
use native.Mathlib.Omega.{arith}
use Rattle.bsii_copy.proofs.Copies.{piece_stored}
use Rattle.bsii_copy.proofs.names.copy_front.Goals as goal

pub returns-then-name-le24 : goal.returns-then-name-le24
returns-then-name-le24 c =
    let a = c.args in
    (piece_stored a.out.now a.start a.name.now 8 8 (omega arith) c.copy_piece.ensures c.copy_piece-2.ensures, omega arith, omega arith)

pub returns : goal.returns
returns c =
    let a = c.args in
    let two = piece_stored a.out.now a.start a.name.now 8 8 (omega arith) c.copy_piece.ensures c.copy_piece-2.ensures in
    (piece_stored a.out.now a.start a.name.now 16 8 (omega arith) two c.copy_piece-3.ensures, omega arith, omega arith)
