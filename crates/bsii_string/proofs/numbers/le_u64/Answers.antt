-- `numbers::le_u64`: Two numbers of four bytes are one of eight.
use native.Mathlib.Omega.{arith}
use Rattle.bsii_string.proofs.Bytes.{eight_bytes}
use Rattle.bsii_string.proofs.Passed.{passed_on}
use Rattle.bsii_string.proofs.Widths.{bytes_there, number_there, number_cut}
use Rattle.bsii_string.proofs.numbers.le_u64.Goals as goal

pub quad-requires : goal.quad-requires
quad-requires c = let a = c.args in omega (arith, bytes_there 8 a.s.now a.at c.in_ok-next.ensures)

pub overflow_add-at : goal.overflow_add-at
overflow_add-at c = let a = c.args in omega (arith, bytes_there 8 a.s.now a.at c.in_ok-next.ensures)

pub quad-requires-2 : goal.quad-requires-2
quad-requires-2 c = let a = c.args in omega (arith, bytes_there 8 a.s.now a.at c.in_ok-next.ensures)

pub returns-in_err-next : goal.returns-in_err-next
returns-in_err-next c =
    let a = c.args in
    rw (passed_on c.from_residual.ensures.1) (number_cut 8 a.s.now a.at c.in_err-next.ensures)

pub returns : goal.returns
returns c =
    let a = c.args in
    cc (number_there 8 a.s.now a.at c.in_ok-next.ensures, eight_bytes a.s.now a.at)
