-- `hex_padded` has `count` digits (`padded_length`), so the place of `count` bytes is the text's: past the end nothing is stored, and inside, the digits
-- filled in up to `start + count` start at `start`.
use Prim.Native.Nat.{ℕ, ◌+◌, ◌-◌}
use mathlib.Core.Path.{◌≡◌, sym, ap, ◌∙◌}
use native.Mathlib.Omega.{arith}
use lib.Seq.{sets}
use Rattle.bsii_format.specs.Digits.{hex_padded}
use Rattle.bsii_window.proofs.Laws.{past, inside_sum}
use Rattle.bsii_digits.proofs.DigitLaws.{padded_length}
use Rattle.bsii_window.proofs.digits.write_hex_padded.Goals as goal

pub returns-in-Past : goal.returns-in-Past
returns-in-Past c =
    let a = c.args in
    past c.in-Past.is c.overlap_of.ensures (sym (padded_length a.count a.n)) c.further.ensures (omega arith)

pub returns-in-Inside : goal.returns-in-Inside
returns-in-Inside c =
    let a = c.args in
    let z : c.in-Inside.start + a.count - a.count ≡ c.in-Inside.start = omega arith in
    inside_sum c.in-Inside.is c.overlap_of.ensures (sym (padded_length a.count a.n))
    (c.fill_hex.ensures ∙ ap (λ (k : ℕ). sets a.out.now k (hex_padded a.count a.n)) z) (omega arith)
