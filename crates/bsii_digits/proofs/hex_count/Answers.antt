use Prim.Native.Nat.{ℕ, ◌-◌, ◌/◌}
use mathlib.Core.Path.{sym, ap, ◌∙◌}
use native.Mathlib.Omega.{arith}
use lib.Count.{count_leading_zeros}
use lib.ListN.{length}
use Rattle.bsii_format.specs.Digits.{hexadecimal, digits, digits_from}
use Rattle.bsii_digits.proofs.DigitLaws.{hex_count, padded_length}
use Rattle.bsii_digits.proofs.hex_count.Goals as goal

pub returns-then-n-eq0 : goal.returns-then-n-eq0
unfolding digits digits_from
returns-then-n-eq0 c = (ap (λ (n : ℕ). length (hexadecimal n)) (sym c.if-n-eq0.true), omega arith)

pub returns : goal.returns
returns c =
    let n = c.args.n in
    (sym (ap length (hex_count n (omega arith) (omega arith)) ∙ padded_length ((67 - count_leading_zeros 64 n) / 4) n), omega arith)
