-- `values::array_parser`: The count is read; elements of numbers are one row of numbers, other elements are walked.
use Prim.Native.Nat.{ℕ, ◌*◌}
use mathlib.Core.Option.{some}
use mathlib.Core.Path.{sym, ap, ap₂, ◌∙◌}
use lib.ListN.{drop}
use Rattle.bsii_format.specs.Reader.{repeat}
use Rattle.bsii_format.specs.Numbers.{number}
use Rattle.bsii_format.specs.Types.{many}
use Rattle.bsii_format.specs.Values.{shape_parser}
use Rattle.bsii_string.specs.Answers.{end_of}
use Rattle.bsii_string.proofs.Passed.{passed_on}
use Rattle.bsii_value.specs.Kinds.{numeric_is, kind_is}
use Rattle.bsii_value.specs.declared.types.Kind.{Kind}
use Rattle.bsii_value.proofs.Elements.{many_short, many_end, many_numbers}
use Rattle.bsii_value.proofs.values.array_parser.Goals as goal

pub returns-in_err-n : goal.returns-in_err-n
unfolding end_of
returns-in_err-n c =
    let a = c.args in
    rw (passed_on c.from_residual.ensures.1) (sym (ap end_of (many_short (kind_is a.kind) a.at (drop a.at a.s.now) (sym c.in_err-n.ensures))))

pub returns-in-Numbers : goal.returns-in-Numbers
returns-in-Numbers c =
    let a = c.args in
    let e = sym c.in_ok-n.ensures in
    c.numbers_end.ensures
    ∙ ap₂ (λ (n w : ℕ). end_of (repeat n (number w) c.in_ok-n.next (drop c.in_ok-n.next a.s.now))) (c.product.ensures ∙ ap (λ (m : ℕ). c.in_ok-n.n * m) c.arity.ensures) c.width.ensures
    ∙ sym (many_numbers a.at (drop a.at a.s.now) c.in_ok-n.n c.in_ok-n.next _ e (numeric_is c.in-Numbers.form))
    ∙ ap (λ (k : Kind). end_of (shape_parser (some (many (kind_is k))) a.at (drop a.at a.s.now))) (sym c.in-Numbers.is)

pub returns-in_default : goal.returns-in_default
returns-in_default c =
    let a = c.args in
    let e = sym c.in_ok-n.ensures in
    c.row_end.ensures ∙ sym (many_end a.at (drop a.at a.s.now) c.in_ok-n.n c.in_ok-n.next _ e (kind_is a.kind))
