-- `values::numeric_end`: An element of numbers is a row of as many as its arity.
use Prim.Native.Nat.{ℕ, ◌+◌, ◌-◌, ◌*◌, ◌/◌}
use mathlib.Core.Path.{sym, ap, ◌∙◌}
use native.Mathlib.Nat.{le_refl}
use native.Mathlib.Omega.{arith}
use lib.ListN.{drop}
use Rattle.bsii_format.specs.Reader.{short_at}
use Rattle.bsii_format.specs.Types.{width, arity}
use Rattle.bsii_string.specs.Answers.{end_of}
use Rattle.std.specs.Prelude.{Ok}
use Rattle.bsii_value.specs.Kinds.{numeric_is}
use Rattle.bsii_value.proofs.Elements.{numbers_end}
use Rattle.bsii_value.proofs.NumberRows.{fitting, part, wide, row_whole, row_cut}
use Rattle.bsii_value.proofs.values.numeric_end.Goals as goal

pub nonzero_div-fit : goal.nonzero_div-fit
nonzero_div-fit c =
    let k = numeric_is c.args.n in
    omega (arith, wide (arity k) (width k) c.left-rest.result (omega arith))

pub overflow_mul-fit : goal.overflow_mul-fit
overflow_mul-fit c = let l = c.left-rest.result in omega (arith, fitting (l / c.size-each.result) c.size-each.result l (le_refl _))

pub overflow_sub-part : goal.overflow_sub-part
overflow_sub-part c = let l = c.left-rest.result in omega (arith, fitting (l / c.size-each.result) c.size-each.result l (le_refl _))

pub overflow_add-at : goal.overflow_add-at
overflow_add-at c = let l = c.left-rest.result in omega (arith, fitting (l / c.size-each.result) c.size-each.result l (le_refl _))

pub short-requires : goal.short-requires
short-requires c =
    let k = numeric_is c.args.n in
    let l = c.left-rest.result in
    omega (arith, part c.size-each.result l (omega (arith, wide (arity k) (width k) l (omega arith))))

pub returns-then-rest-total : goal.returns-then-rest-total
unfolding end_of
returns-then-rest-total c =
    let a = c.args in
    let k = numeric_is a.n in
    let l = c.left-rest.result in
    let fit = l / c.size-each.result * c.size-each.result in
    rw c.short.ensures
    (ap (λ (w : ℕ). end_of {A = Unit {0}} (short_at (a.at + fit) (w - (l - fit)))) c.width-one.ensures
    ∙ row_cut a.s.now a.at (arity k) (width k) c.left-rest.ensures (c.size-each.ensures ∙ c.width-one.ensures) (omega arith)
    ∙ sym (numbers_end k a.at (drop a.at a.s.now)))

pub returns : goal.returns
returns c =
    let a = c.args in
    let k = numeric_is a.n in
    ap (λ (m : ℕ). Ok (a.at + m)) c.byte_count-total.ensures ∙ row_whole a.s.now a.at (arity k) (width k) (omega arith) ∙ sym (numbers_end k a.at (drop a.at a.s.now))
