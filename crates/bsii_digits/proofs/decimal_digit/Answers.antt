use Prim.Native.Nat.{◌+◌}
use mathlib.Core.Path.{refl}
use Rattle.bsii_format.specs.Digits.{digit}
use Rattle.bsii_digits.proofs.Tables.{holds, agree}
use Rattle.bsii_digits.proofs.decimal_digit.Goals as goal

pub returns : goal.returns
unfolding digit holds
returns c = agree (λ d. 48 + d) digit 10 refl c.args.d c.requires
