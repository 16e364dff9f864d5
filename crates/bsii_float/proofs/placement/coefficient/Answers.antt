use Rattle.std.proofs.Common.{arith}
use Rattle.bsii_float.proofs.Coefficient.{word_above, word_below}
use Rattle.bsii_float.proofs.placement.coefficient.Goals as goal

pub returns-then-bits-lt2147483648 : goal.returns-then-bits-lt2147483648
returns-then-bits-lt2147483648 c = omega (arith, c.min.ensures, word_above c.args.bits _ c.cut_size-size.ensures c.if-bits-lt2147483648.true)

pub returns-else-bits-lt2147483648 : goal.returns-else-bits-lt2147483648
returns-else-bits-lt2147483648 c = omega (arith, c.wrapping_neg.ensures, word_below c.args.bits _ c.cut_size-size.ensures c.if-bits-lt2147483648.false)
