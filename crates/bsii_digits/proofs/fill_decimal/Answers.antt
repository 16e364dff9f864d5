use Prim.Native.Nat.{◌-◌, ◌/◌, ◌%◌, ◌+◌}
use mathlib.Core.Path.{◌≡◌, ◌∙◌}
use mathlib.Core.List.{[], ◌∷◌}
use native.Mathlib.Omega.{arith}
use Rattle.bsii_format.specs.Digits.{digit}
use Rattle.bsii_digits.proofs.DigitLaws.{decimal_two, two_more}
use Rattle.bsii_digits.proofs.Fills.{fill_more, fill_room, fill_within, fill_rest}
use Rattle.bsii_digits.proofs.fill_decimal.Goals as goal

pub overflow_sub-i : goal.overflow_sub-i
overflow_sub-i c = let l = c.loop-rest in two_more l.rest (omega arith) (fill_room l.invariant.0 l.invariant.1)

pub fill_pair-requires : goal.fill_pair-requires
fill_pair-requires c =
    let l = c.loop-rest in
    omega (arith, two_more l.rest (omega arith) (fill_room l.invariant.0 l.invariant.1), fill_within l.invariant.0 l.invariant.2)

pub loop-rest-preserved : goal.loop-rest-preserved
loop-rest-preserved c =
    let l = c.loop-rest in
    let r : l.i - 2 + 2 ≡ l.i = omega (arith, two_more l.rest (omega arith) (fill_room l.invariant.0 l.invariant.1)) in
    let f = fill_more (digit (l.rest / 10 % 10) ∷ digit (l.rest % 10) ∷ []) (l.i - 2) l.invariant.0 r (decimal_two l.rest (omega arith)) in
    (rw (c.fill_pair.ensures, c.decimal_digit.ensures, c.decimal_digit-in-loop-rest.ensures) f, l.invariant.1, l.invariant.2)

pub returns : goal.returns
returns c = let l = c.loop-rest in c.fill_first.ensures ∙ fill_rest l.invariant.0 l.invariant.1
