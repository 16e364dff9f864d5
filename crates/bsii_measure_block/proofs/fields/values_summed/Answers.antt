use native.Mathlib.Omega.{arith}
use Rattle.bsii_string.proofs.Passed.{passed_on}
use Rattle.bsii_prototype.proofs.Inside.{field_inside}
use Rattle.bsii_measure_block.proofs.ValueLaws.{adding_start, adding_last, adding_fault, adding_next}
use Rattle.bsii_measure_block.proofs.fields.values_summed.Goals as goal

pub loop-found-init : goal.loop-found-init
loop-found-init c = adding_start c.requires

pub overflow_add-d : goal.overflow_add-d
overflow_add-d c = omega (arith, field_inside c.args.s.now c.loop-found.field c.in-Some.ensures.1)

pub field_summed-requires : goal.field_summed-requires
field_summed-requires c =
    let f = field_inside c.args.s.now c.loop-found.field c.in-Some.ensures.1 in
    (c.loop-found.invariant.room, record { ordered = f.2; inside = f.3 })

pub returns-in_err-value : goal.returns-in_err-value
returns-in_err-value c = rw (passed_on c.from_residual.ensures.1) (adding_fault c.loop-found.invariant c.in-Some.ensures.1 c.in_err-value.ensures)

pub loop-found-smaller : goal.loop-found-smaller
loop-found-smaller c = omega (arith, field_inside c.args.s.now c.loop-found.field c.in-Some.ensures.1)

pub loop-found-preserved : goal.loop-found-preserved
loop-found-preserved c = adding_next c.loop-found.invariant c.in-Some.ensures.1 c.in_ok-value.ensures

pub returns : goal.returns
returns c = adding_last c.loop-found.invariant c.in_default.ensures
