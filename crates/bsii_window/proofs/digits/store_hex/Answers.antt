-- From 2^28 on there are eight digits, the four of the upper half and the four of the lower one; below, those that are filled in up to `to` and their number
-- start at `to`, and as many as there are are all of them.
use Prim.Native.Nat.{ℕ, ◌/◌}
use mathlib.Core.Path.{refl, sym, ap, ◌∙◌}
use native.Mathlib.Omega.{arith}
use Rattle.bsii_format.specs.Digits.{hexadecimal, hex_padded}
use Rattle.bsii_format.proofs.Lists.{sets_append}
use Rattle.bsii_digits.proofs.DigitLaws.{eight, padded_length, padded_whole}
use Rattle.bsii_digits.proofs.Counts.{hex_below}
use Rattle.bsii_window.proofs.Stores.{stored_being, stored_filled}
use Rattle.bsii_window.proofs.digits.store_hex.Goals as goal

pub returns-then-n-gt268435455 : goal.returns-then-n-gt268435455
unfolding hex_padded
returns-then-n-gt268435455 c =
    let n = c.from-wide.result in
    let a = c.args in
    let fill_four = c.fill_four in (
      stored_being (sym (eight n (omega arith) (omega arith)) ∙ ap hexadecimal c.from-wide.ensures)
          (record {
            next = refl;
            output = c.fill_four-then-n-gt268435455.ensures ∙ rw fill_four.ensures (sets_append a.out.now a.to (hex_padded 4 (n / 0x1_0000)) (hex_padded 4 n));
          }),
      omega arith,
    )

pub fill_hex-requires : goal.fill_hex-requires
fill_hex-requires c =
    let count = c.hex_count-count.ensures.0 in
    let n = c.from-wide.result in
    (omega arith, omega (arith, count, hex_below 7 n (omega arith)))

pub returns : goal.returns
returns c =
    let count = c.hex_count-count in
    let n = c.from-wide.result in (
      stored_being (ap (λ (w : ℕ). hex_padded w n) count.ensures.0 ∙ padded_whole n (omega arith) ∙ ap hexadecimal c.from-wide.ensures)
          (stored_filled (sym (padded_length count.result n)) refl c.fill_hex.ensures),
      omega (arith, count.ensures.0, hex_below 7 n (omega arith)),
    )
