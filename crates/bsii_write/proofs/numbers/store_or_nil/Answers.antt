-- `or_nil` tests for the largest number first: where n is it, its text is `nil`, else its decimal digits, and the branch taken is that test.
use mathlib.Core.Path.{sym}
use native.Mathlib.Omega.{arith}
use Rattle.bsii_window.proofs.Stores.{stored_being}
use Rattle.bsii_write.proofs.NumberLaws.{nil_text, decimal_text}
use Rattle.bsii_write.proofs.numbers.store_or_nil.Goals as goal

pub returns-then-n-largest : goal.returns-then-n-largest
returns-then-n-largest c =
    let a = c.args in
    let if1 = c.if-n-largest in
    (stored_being (sym (nil_text a.largest a.n if1.true)) c.store_text.ensures, omega arith)

pub returns : goal.returns
returns c =
    let a = c.args in
    let if1 = c.if-n-largest in
    (stored_being (sym (decimal_text a.largest a.n if1.false)) c.store_decimal.ensures.0, omega arith)
