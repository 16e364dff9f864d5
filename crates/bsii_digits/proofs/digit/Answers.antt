use mathlib.Core.Path.{refl}
use Rattle.bsii_format.specs.Digits.{digit}
use Rattle.bsii_digits.proofs.digit.Goals as goal

pub returns : goal.returns
unfolding digit
returns c = refl
