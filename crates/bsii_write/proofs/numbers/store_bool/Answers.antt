-- `bool_text` tells 0 from all other numbers as the test does: the branch taken says which of its two texts it is.
use mathlib.Core.Path.{sym}
use native.Mathlib.Omega.{arith}
use Rattle.bsii_window.proofs.Stores.{stored_being}
use Rattle.bsii_write.proofs.NumberLaws.{false_text, true_text}
use Rattle.bsii_write.proofs.numbers.store_bool.Goals as goal

pub returns-then-n-eq0 : goal.returns-then-n-eq0
returns-then-n-eq0 c =
    let n = c.args.n in
    let if1 = c.if-n-eq0 in
    (stored_being (sym (false_text n if1.true)) c.store_text.ensures, omega arith)

pub returns : goal.returns
returns c =
    let n = c.args.n in
    let if1 = c.if-n-eq0 in
    (stored_being (sym (true_text n if1.false)) c.store_text-2.ensures, omega arith)
