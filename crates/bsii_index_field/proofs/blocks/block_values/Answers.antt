use mathlib.Core.Path.{sym, ap, ◌∙◌}
use native.Mathlib.Omega.{arith}
use Rattle.std.specs.Prelude.{Ok}
use Rattle.bsii_format.proofs.Parsers.{value_exact}
use Rattle.bsii_string.proofs.Passed.{passed_on}
use Rattle.bsii_block.proofs.Values.{step_start, step_last, step_bad, step_fault, step_next}
use Rattle.bsii_block.proofs.Skipped.{values_checked}
use Rattle.bsii_prototype.proofs.Inside.{field_inside}
use Rattle.bsii_index_field.proofs.Values.{keep_start, keep_last, keep_next, values_read, values_bad}
use Rattle.bsii_index_field.proofs.blocks.block_values.Goals as goal

pub loop-type_id-init : goal.loop-type_id-init
loop-type_id-init c = (step_start, keep_start c.args.index)

pub returns-in_err-entry_with : goal.returns-in_err-entry_with
returns-in_err-entry_with c = rw (passed_on c.from_residual.ensures.1) (values_bad (values_checked (step_bad c.loop-type_id.invariant.0 c.in_err-entry_with.ensures _)) _)

pub returns-in-Last : goal.returns-in-Last
returns-in-Last c =
    let i = c.loop-type_id.invariant in
    let e = ap Ok (sym c.in-Last.is) ∙ c.in_ok-entry_with.ensures in
    values_read (values_checked (step_last i.0 e)) (keep_last i.1 e)

pub returns-in_err-end-in-Field : goal.returns-in_err-end-in-Field
returns-in_err-end-in-Field c =
    let i = c.loop-type_id.invariant in
    let e = ap Ok (sym c.in-Field.is) ∙ c.in_ok-entry_with.ensures in
    rw (passed_on c.from_residual-in_err-end-in-Field.ensures.1) (values_bad (values_checked (step_fault i.0 e c.in_err-end-in-Field.ensures)) _)

pub overflow_add-passed : goal.overflow_add-passed
overflow_add-passed c =
    let e = ap Ok (sym c.in-Field.is) ∙ c.in_ok-entry_with.ensures in
    omega (arith, c.loop-type_id.invariant.0.few, field_inside c.args.s.now c.loop-type_id.field e)

pub loop-type_id-smaller : goal.loop-type_id-smaller
loop-type_id-smaller c =
    let e = ap Ok (sym c.in-Field.is) ∙ c.in_ok-entry_with.ensures in
    omega (arith, field_inside c.args.s.now c.loop-type_id.field e)

pub loop-type_id-preserved : goal.loop-type_id-preserved
loop-type_id-preserved c =
    let i = c.loop-type_id.invariant in
    let e = ap Ok (sym c.in-Field.is) ∙ c.in_ok-entry_with.ensures in
    (step_next i.0 e (value_exact c.args.version) (field_inside c.args.s.now c.loop-type_id.field e).0 c.in_ok-end-in-Field.ensures, rw c.keep-kept.ensures (keep_next i.1 e c.in_ok-end-in-Field.ensures))
