-- `skip_id`: the first byte is read, and a product passes the words behind it.
use mathlib.Core.Path.{sym, ap, ◌∙◌}
use Prim.Native.Nat.{ℕ}
use lib.ListN.{drop}
use Rattle.bsii_format.specs.Reader.{repeat}
use Rattle.bsii_format.specs.Numbers.{number}
use Rattle.bsii_string.specs.Answers.{end_of}
use Rattle.bsii_string.proofs.Passed.{passed_on}
use Rattle.bsii_skip.proofs.Skips.{id_short, id_nameless, id_named}
use Rattle.bsii_skip.proofs.skip_id.Goals as goal

pub returns-then-n-eq255 : goal.returns-then-n-eq255
returns-then-n-eq255 c =
    let a = c.args in
    let e = sym c.in_ok-n.ensures in
    c.numbers_end.ensures ∙ sym (id_nameless (drop a.at a.s.now) a.at _ _ _ e c.if-n-eq255.true)

pub returns-in_err-n : goal.returns-in_err-n
unfolding end_of
returns-in_err-n c =
    let a = c.args in
    rw (passed_on c.from_residual.ensures.1) (sym (ap end_of (id_short (drop a.at a.s.now) a.at (sym c.in_err-n.ensures))))

pub returns : goal.returns
returns c =
    let a = c.args in
    let e = sym c.in_ok-n.ensures in
    c.numbers_end-2.ensures
    ∙ ap (λ (n : ℕ). end_of (repeat n (number 8) c.in_ok-n.next (drop c.in_ok-n.next a.s.now))) c.size.ensures
    ∙ sym (id_named (drop a.at a.s.now) a.at _ _ _ e c.if-n-eq255.false)
