-- `numbers::le_u32`: Four bytes that are there are a number.
use native.Mathlib.Omega.{arith}
use Rattle.bsii_string.proofs.Passed.{passed_on}
use Rattle.bsii_string.proofs.Widths.{bytes_there, number_there, number_cut}
use Rattle.bsii_string.proofs.numbers.le_u32.Goals as goal

pub quad-requires : goal.quad-requires
quad-requires c = let a = c.args in omega (arith, bytes_there 4 a.s.now a.at c.in_ok-next.ensures)

pub returns-in_err-next : goal.returns-in_err-next
returns-in_err-next c =
    let a = c.args in
    rw (passed_on c.from_residual.ensures.1) (number_cut 4 a.s.now a.at c.in_err-next.ensures)

pub returns : goal.returns
returns c =
    let a = c.args in
    cc (number_there 4 a.s.now a.at c.in_ok-next.ensures)
