-- `skip_elements`: rows of numbers and of words are rows of fixed length, other rows are walked.
use mathlib.Core.Path.{sym, ap, ap₂, ◌∙◌}
use Prim.Native.Nat.{ℕ, ◌*◌}
use native.Mathlib.Omega.{arith}
use lib.ListN.{drop}
use Rattle.bsii_format.specs.Reader.{repeat}
use Rattle.bsii_format.specs.Numbers.{number}
use Rattle.bsii_string.specs.Answers.{end_of}
use Rattle.bsii_value.specs.Kinds.{numeric_is, kind_is}
use Rattle.bsii_value.specs.declared.types.Kind.{Kind}
use Rattle.bsii_value.proofs.NumberRows.{product_below}
use Rattle.bsii_skip.specs.Unchecked.{unchecked_element}
use Rattle.bsii_skip.proofs.Skips.{numbers_row, words_row}
use Rattle.bsii_skip.proofs.skip_elements.Goals as goal

pub overflow_mul-size : goal.overflow_mul-size
overflow_mul-size c = record { fits = product_below (omega arith) (omega arith) }

pub returns-in-Numbers : goal.returns-in-Numbers
returns-in-Numbers c =
    let a = c.args in
    let n = c.size.ensures in
    let m = c.size-in-Numbers.ensures ∙ c.arity.ensures in
    let w = c.width.ensures in
    c.numbers_end.ensures
    ∙ ap₂ (λ (k w : ℕ). end_of (repeat k (number w) a.at (drop a.at a.s.now))) (ap₂ (λ (n m : ℕ). n * m) n m) w
    ∙ sym (numbers_row (numeric_is c.in-Numbers.n) a.count a.at (drop a.at a.s.now))
    ∙ ap (λ (k : Kind). end_of (repeat a.count (unchecked_element (kind_is k)) a.at (drop a.at a.s.now))) (sym c.in-Numbers.is)

pub returns-in-EncodedString : goal.returns-in-EncodedString
returns-in-EncodedString c =
    let a = c.args in
    c.numbers_end-in-EncodedString.ensures
    ∙ ap (λ (n : ℕ). end_of (repeat n (number 8) a.at (drop a.at a.s.now))) c.size-in-EncodedString.ensures
    ∙ sym (words_row a.count a.at (drop a.at a.s.now))
    ∙ ap (λ (k : Kind). end_of (repeat a.count (unchecked_element (kind_is k)) a.at (drop a.at a.s.now))) (sym c.in-EncodedString.is)
