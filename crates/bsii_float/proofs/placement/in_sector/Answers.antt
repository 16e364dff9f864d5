use Rattle.bsii_float.proofs.Sums.{sum_text}
use Rattle.std.proofs.Common.{arith}
use Rattle.bsii_float.proofs.placement.in_sector.Goals as goal

pub returns : goal.returns
returns c =
    let a = c.args in
    rw (c.bits_of.ensures, c.quiet.ensures, c.sector_sum.ensures, c.float_of.ensures)
    (sum_text a.bits a.sector (omega arith))
