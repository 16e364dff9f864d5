-- `numeric::number_array`: The count is read, and its elements are one row of numbers.
use Prim.Native.Nat.{ℕ, ◌*◌}
use mathlib.Core.Path.{sym, ap, ap₂, ◌∙◌}
use lib.ListN.{drop}
use Rattle.bsii_format.specs.Reader.{repeat}
use Rattle.bsii_format.specs.Numbers.{number}
use Rattle.bsii_format.specs.Types.{numbers}
use Rattle.bsii_string.proofs.Passed.{passed_on}
use Rattle.bsii_string.specs.Answers.{end_of}
use Rattle.bsii_value.specs.Kinds.{numeric_is}
use Rattle.bsii_value.proofs.Elements.{many_short, many_numbers}
use Rattle.bsii_element.proofs.numeric.number_array.Goals as goal

pub returns-in_err-n : goal.returns-in_err-n
unfolding end_of
returns-in_err-n c =
    let a = c.args in
    rw (passed_on c.from_residual.ensures.1) (sym (ap end_of (many_short (numbers (numeric_is a.form)) 0 a.part.now (sym c.in_err-n.ensures))))

pub returns : goal.returns
returns c =
    let g = c.in_ok-n in
    let a = c.args in
    c.numbers_end.ensures
    ∙ ap₂ (λ (n w : ℕ). end_of (repeat n (number w) g.next (drop g.next a.part.now))) (c.product.ensures ∙ ap (λ (m : ℕ). g.n * m) c.arity.ensures) c.width.ensures
    ∙ sym (many_numbers 0 a.part.now g.n g.next _ (sym g.ensures) (numeric_is a.form))
