use Prim.Native.Nat.{suc, ◌+◌}
use mathlib.Core.Path.{◌≡◌, refl, ◌∙◌}
use native.Mathlib.Omega.{arith}
use Rattle.bsii_digits.proofs.DigitLaws.{padded_four}
use Rattle.bsii_digits.proofs.fill_four.Goals as goal

pub returns : goal.returns
returns c =
    let a = c.args in
    let fill-pair = c.fill_pair in
    let z : a.start + 2 ≡ suc (suc a.start) = omega arith in
    c.fill_pair-2.ensures ∙ rw (padded_four a.n, fill-pair.ensures, z, c.digit.ensures, c.digit-2.ensures, c.digit-3.ensures, c.digit-4.ensures) refl
