-- `skip_value`: by the shape that the table gives; an array's count is read, then its elements are passed.
use Prim.Native.Nat.{ℕ}
use mathlib.Core.Option.{Option, some}
use mathlib.Core.List.{List}
use Rattle.std.specs.Prelude.{Some}
use mathlib.Core.Path.{◌≡◌, sym, ap, ◌∙◌}
use lib.ListN.{drop}
use Rattle.bsii_format.specs.Reader.{fail}
use Rattle.bsii_format.specs.Types.{Shape, many, shape_of}
use Rattle.bsii_value.specs.declared.types.Kind.{Kind}
use Rattle.bsii_string.specs.Answers.{end_of}
use Rattle.bsii_string.proofs.Passed.{passed_on}
use Rattle.bsii_value.specs.Kinds.{kind_is, shape_is}
use Rattle.bsii_skip.specs.Unchecked.{unchecked_array, unchecked_shape, unchecked_value}
use Rattle.bsii_skip.proofs.Skips.{array_short, array_end}
use Rattle.bsii_skip.proofs.skip_value.Goals as goal

-- the shape is an array of this kind
array : (k : Kind) (version t at : ℕ) (s : List ℕ) → some (many (kind_is k)) ≡ shape_of version t
    → end_of (unchecked_array (kind_is k) at s) ≡ end_of (unchecked_value version t at s)
unfolding unchecked_value unchecked_shape
array k version t at s e = ap (λ (o : Option Shape). end_of (unchecked_shape o at s)) e

pub returns-in-One : goal.returns-in-One
unfolding unchecked_value unchecked_shape
returns-in-One c =
    let a = c.args in
    c.skip_element.ensures ∙ ap (λ (o : Option Shape). end_of (unchecked_shape o a.at (drop a.at a.s.now))) (ap shape_is (sym (c.in-Some.is ∙ ap Some c.in-One.is)) ∙ c.shape_of.ensures)

pub returns-in_err-n-in-Many : goal.returns-in_err-n-in-Many
unfolding end_of
returns-in_err-n-in-Many c =
    let a = c.args in
    let s = drop a.at a.s.now in
    rw (passed_on c.from_residual.ensures.1) (sym (ap end_of (array_short s a.at (kind_is c.in-Many.kind) (sym c.in_err-n-in-Many.ensures))) ∙ array c.in-Many.kind a.version a.type_id a.at s (ap shape_is (sym (c.in-Some.is ∙ ap Some c.in-Many.is)) ∙ c.shape_of.ensures))

pub returns-in_ok-n-in-Many : goal.returns-in_ok-n-in-Many
returns-in_ok-n-in-Many c =
    let a = c.args in
    let s = drop a.at a.s.now in
    let e = sym c.in_ok-n-in-Many.ensures in
    c.skip_elements.ensures ∙ sym (array_end s a.at _ _ _ (kind_is c.in-Many.kind) e) ∙ array c.in-Many.kind a.version a.type_id a.at s (ap shape_is (sym (c.in-Some.is ∙ ap Some c.in-Many.is)) ∙ c.shape_of.ensures)

pub returns-in_default : goal.returns-in_default
unfolding unchecked_value unchecked_shape fail end_of
returns-in_default c =
    let a = c.args in
    rw c.refused.ensures (ap (λ (o : Option Shape). end_of (unchecked_shape o a.at (drop a.at a.s.now))) c.in_default.ensures)
