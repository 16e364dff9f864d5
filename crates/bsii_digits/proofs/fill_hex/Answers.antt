use Prim.Native.Nat.{ℕ, ◌-◌, ◌*◌, ◌/◌, ◌%◌, ◌+◌}
use mathlib.Core.Path.{◌≡◌, sym, ap, ◌∙◌}
use mathlib.Core.List.{[], ◌∷◌, ◌++◌}
use native.Mathlib.Omega.{arith}
use lib.Seq.{sets}
use Rattle.bsii_format.specs.Digits.{digit, hex_padded}
use Rattle.bsii_digits.proofs.DigitLaws.{padded_more, padded_two, padded_none, padded_length}
use Rattle.bsii_digits.proofs.Fills.{fill_none, fill_more, fill_room, fill_end}
use Rattle.bsii_digits.proofs.fill_hex.Goals as goal

pub loop-init : goal.loop-init
loop-init c =
    let a = c.args in
    let z : a.count - 0 ≡ a.count = omega arith in
    (rw z (fill_none a.out.now a.end (hex_padded a.count a.n)), omega (arith, padded_length a.count a.n), c.requires.1)

pub overflow_sub-i : goal.overflow_sub-i
overflow_sub-i c = let l = c.loop in omega (arith, fill_room l.invariant.0 l.invariant.1, padded_length (c.args.count - 2 * l.counter) l.rest)

pub loop-preserved : goal.loop-preserved
loop-preserved c =
    let l = c.loop in
    let left = c.args.count - 2 * l.counter in
    let z : left - 2 ≡ c.args.count - 2 * (l.counter + 1) = omega arith in
    let r : l.i - 2 + 2 ≡ l.i = omega (arith, fill_room l.invariant.0 l.invariant.1, padded_length left l.rest) in
    let f = fill_more (digit (l.rest / 16 % 16) ∷ digit (l.rest % 16) ∷ []) (l.i - 2) l.invariant.0 r (padded_two left l.rest (omega arith)) in
    (rw (c.fill_pair.ensures, ← z, c.digit.ensures, c.digit-in-loop.ensures) f, l.invariant.1, l.invariant.2)

pub overflow_sub-out : goal.overflow_sub-out
overflow_sub-out c = let l = c.loop in omega (arith, fill_room l.invariant.0 l.invariant.1, padded_length (c.args.count - 2 * l.counter) l.rest)

pub returns-then-count-eq1 : goal.returns-then-count-eq1
returns-then-count-eq1 c =
    let a = c.args in
    let l = c.loop in
    let left = a.count - 2 * l.counter in
    let r : l.i - 1 + 1 ≡ l.i = omega (arith, fill_room l.invariant.0 l.invariant.1, padded_length left l.rest) in
    let e = padded_more left l.rest (omega arith) ∙ ap (λ (d : ℕ). hex_padded (left - 1) (l.rest / 16) ++ (d ∷ [])) (sym c.digit-then-count-eq1.ensures) in
    fill_end (fill_more (c.digit-then-count-eq1.result ∷ []) (l.i - 1) l.invariant.0 r e) (padded_none (left - 1) (l.rest / 16) (omega arith))
    ∙ ap (λ (k : ℕ). sets a.out.now (a.end - k) (hex_padded a.count a.n)) (padded_length a.count a.n)

pub returns-else-count-eq1 : goal.returns-else-count-eq1
returns-else-count-eq1 c =
    let a = c.args in
    let l = c.loop in
    fill_end l.invariant.0 (padded_none (a.count - 2 * l.counter) l.rest (omega arith))
    ∙ ap (λ (k : ℕ). sets a.out.now (a.end - k) (hex_padded a.count a.n)) (padded_length a.count a.n)
