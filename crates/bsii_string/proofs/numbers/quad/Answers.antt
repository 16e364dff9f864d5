-- `numbers::quad`: The number of the four bytes is the little-endian number.
use native.Mathlib.Omega.{arith}
use Rattle.bsii_string.proofs.Bytes.{four_bytes}
use Rattle.bsii_string.proofs.numbers.quad.Goals as goal

pub returns : goal.returns
returns c =
    let a = c.args in
    omega (arith, c.from_le_bytes.ensures, four_bytes a.s.now a.at)
