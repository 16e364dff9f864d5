-- `count` is the number of digits, so the law of the place applies. Inside, the digits that are filled in up to `start + count` start at `start`, since there
-- are `count` of them; past the end nothing is stored.
use Prim.Native.Nat.{ℕ, ◌+◌, ◌-◌}
use mathlib.Core.Path.{◌≡◌, ap, ◌∙◌}
use native.Mathlib.Omega.{arith}
use lib.ListN.{length}
use lib.Seq.{sets}
use Rattle.bsii_format.specs.Digits.{decimal}
use Rattle.bsii_window.proofs.Laws.{past, inside_sum}
use Rattle.bsii_window.proofs.digits.write_decimal.Goals as goal

pub returns-in-Past : goal.returns-in-Past
returns-in-Past c = past c.in-Past.is c.overlap_of.ensures c.decimal_count-count.ensures c.further.ensures (omega arith)

pub returns-in-Inside : goal.returns-in-Inside
returns-in-Inside c =
    let a = c.args in
    let start = c.in-Inside.start in
    let n = c.decimal_count-count.result in
    let z : start + n - length (decimal a.n) ≡ start = omega (arith, c.decimal_count-count.ensures) in
    inside_sum c.in-Inside.is c.overlap_of.ensures c.decimal_count-count.ensures
    (c.fill_decimal.ensures ∙ ap (λ (k : ℕ). sets a.out.now k (decimal a.n)) z) (omega arith)
