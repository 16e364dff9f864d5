use Rattle.std.proofs.Common.{sym}
use lib.Ieee.{div, of_bits}
use Rattle.bsii_float.proofs.Nan.{nan_of, nan_no}
use Rattle.bsii_float.proofs.floats.float_of.Goals as goal

pub returns-then-bits-gt2139095040 : goal.returns-then-bits-gt2139095040
unfolding div of_bits
returns-then-bits-gt2139095040 c = sym (nan_of c.args.bits c.if-bits-gt2139095040.true)

pub float_from_bits-result : goal.float_from_bits-result
float_from_bits-result c = rw (nan_no c.args.bits c.if-bits-gt2139095040.false) tt
