-- minus_if puts the sign in front only if the number is negative, which is the branch that stores it; the digits behind it are the same in both.
use mathlib.Core.Path.{sym, ap}
use mathlib.Core.Bool.{Bool}
use native.Mathlib.Omega.{arith}
use Rattle.bsii_format.specs.Digits.{decimal}
use Rattle.bsii_format.specs.Floats.{minus_if}
use Rattle.bsii_window.proofs.Stores.{stored_being}
use Rattle.bsii_float_text.proofs.store_whole.Goals as goal

pub returns-then-n : goal.returns-then-n
unfolding minus_if
returns-then-n c =
    let size = c.args.n.size in
    (stored_being (sym (ap (λ (b : Bool). minus_if b (decimal size)) c.if-n.true)) c.store_negative.ensures.0, omega arith)

pub returns-else-n : goal.returns-else-n
unfolding minus_if
returns-else-n c =
    let size = c.args.n.size in
    (stored_being (sym (ap (λ (b : Bool). minus_if b (decimal size)) c.if-n.false)) c.store_decimal.ensures.0, omega arith)
