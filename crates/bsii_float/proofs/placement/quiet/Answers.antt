use Rattle.bsii_float.proofs.Nan.{quiet_bit}
use Rattle.bsii_float.proofs.placement.quiet.Goals as goal

pub returns : goal.returns
returns c = quiet_bit c.args.bits
