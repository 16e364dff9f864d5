use mathlib.Core.Path.{sym, ap, ◌∙◌}
use native.Mathlib.Omega.{arith}
use Rattle.std.specs.Prelude.{Ok}
use Rattle.bsii_string.proofs.Passed.{passed_on}
use Rattle.bsii_prototype.proofs.Inside.{field_inside}
use Rattle.bsii_block.proofs.Values.{step_start, step_last, step_bad, step_fault, step_next}
use Rattle.bsii_block.proofs.values_end.Goals as goal

pub loop-type_id-init : goal.loop-type_id-init
loop-type_id-init g c = step_start

pub returns-in_err-entry_with : goal.returns-in_err-entry_with
returns-in_err-entry_with g c = step_bad c.loop-type_id.invariant c.in_err-entry_with.ensures _

pub returns-in-Last : goal.returns-in-Last
returns-in-Last g c = step_last c.loop-type_id.invariant (ap Ok (sym c.in-Last.is) ∙ c.in_ok-entry_with.ensures)

pub returns-in_err-at-in-Field : goal.returns-in_err-at-in-Field
returns-in_err-at-in-Field g c =
    let e = ap Ok (sym c.in-Field.is) ∙ c.in_ok-entry_with.ensures in
    rw (passed_on c.from_residual-in_err-at-in-Field.ensures.1) (step_fault c.loop-type_id.invariant e c.in_err-at-in-Field.ensures)

pub overflow_add-count : goal.overflow_add-count
overflow_add-count g c =
    omega (arith, c.loop-type_id.invariant.few, field_inside c.args.s.now c.loop-type_id.field (ap Ok (sym c.in-Field.is) ∙ c.in_ok-entry_with.ensures))

pub loop-type_id-smaller : goal.loop-type_id-smaller
loop-type_id-smaller g c = omega (arith, field_inside c.args.s.now c.loop-type_id.field (ap Ok (sym c.in-Field.is) ∙ c.in_ok-entry_with.ensures))

pub loop-type_id-preserved : goal.loop-type_id-preserved
loop-type_id-preserved g c =
    let e = ap Ok (sym c.in-Field.is) ∙ c.in_ok-entry_with.ensures in
    step_next c.loop-type_id.invariant e (g.met.P.Parts.value_exact c.args.version) (field_inside c.args.s.now c.loop-type_id.field e).0 c.in_ok-at-in-Field.ensures
