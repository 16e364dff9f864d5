use mathlib.Core.Path.{refl, sym}
use native.Mathlib.Omega.{arith}
use Rattle.bsii_digits.proofs.Counts.{as_many, one_more}
use Rattle.bsii_digits.proofs.decimal_count.Goals as goal

pub returns-then-n-power : goal.returns-then-n-power
returns-then-n-power c = sym (as_many c.args.n (omega arith) _ refl (omega (arith, c.power.ensures)))

pub returns : goal.returns
returns c = omega (arith, one_more c.args.n (omega arith) _ refl (omega (arith, c.power.ensures)))
