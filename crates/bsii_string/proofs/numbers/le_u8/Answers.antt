-- `numbers::le_u8`: A byte is a number of one byte.
use native.Mathlib.Omega.{arith}
use Rattle.bsii_string.proofs.Bytes.{one_byte}
use Rattle.bsii_string.proofs.Passed.{passed_on}
use Rattle.bsii_string.proofs.Widths.{bytes_there, number_there, number_cut}
use Rattle.bsii_string.proofs.numbers.le_u8.Goals as goal

pub bounds-s-at : goal.bounds-s-at
bounds-s-at c = let a = c.args in omega (arith, bytes_there 1 a.s.now a.at c.in_ok-next.ensures)

pub returns-in_err-next : goal.returns-in_err-next
returns-in_err-next c =
    let a = c.args in
    rw (passed_on c.from_residual.ensures.1) (number_cut 1 a.s.now a.at c.in_err-next.ensures)

pub returns : goal.returns
returns c =
    let a = c.args in
    cc (number_there 1 a.s.now a.at c.in_ok-next.ensures, one_byte a.s.now a.at)
