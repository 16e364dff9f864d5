use mathlib.Core.Path.{ap, ◌∙◌}
use Prim.Native.Nat.{◌*◌}
use native.Mathlib.Omega.{arith}
use Rattle.bsii_string.proofs.Passed.{passed_on}
use Rattle.bsii_value.specs.Kinds.{numeric_is}
use Rattle.bsii_measure_value.proofs.NumberMeasures.{row_fault, row_there, row_next}
use Rattle.bsii_measure_value.proofs.numeric.numbers_measured.Goals as goal

pub returns-in_err-next : goal.returns-in_err-next
returns-in_err-next c =
    let a = c.args in
    rw (passed_on c.from_residual.ensures.1)
    (row_fault a.s.now a.start a.count (numeric_is a.kind) (c.product.ensures ∙ ap (λ n. a.count * n) c.arity.ensures) c.width.ensures c.in_err-next.ensures a.name)

pub rows_length-requires : goal.rows_length-requires
rows_length-requires c =
    let a = c.args in
    let q = row_there a.s.now a.start a.count (numeric_is a.kind) (c.product.ensures ∙ ap (λ n. a.count * n) c.arity.ensures) c.width.ensures c.in_ok-next.ensures (omega arith) in
    (omega (arith, q.0, q.1), omega arith, omega arith)

pub returns : goal.returns
returns c =
    let a = c.args in
    let q = row_there a.s.now a.start a.count (numeric_is a.kind) (c.product.ensures ∙ ap (λ n. a.count * n) c.arity.ensures) c.width.ensures c.in_ok-next.ensures (omega arith) in
    row_next a.s.now a.start a.count (numeric_is a.kind) q.0 c.rows_length.ensures
