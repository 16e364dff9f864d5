use native.Mathlib.Omega.{arith}
use Rattle.bsii_parse.proofs.Along.{along_ready}
use Rattle.bsii_parse.proofs.Passed.{prototype_less, block_less, block_later}
use Rattle.bsii_index.proofs.Writing.{writing_start, writing_meets, writing_prototype, writing_room, writing_block, writing_end, writing_refused}
use Rattle.bsii_index.proofs.write.write_records.Goals as goal

pub loop-step-init : goal.loop-step-init
loop-step-init c = writing_start c.args.s.now c.args.start c.args.table.now c.args.space.now c.args.width c.requires.inside

pub record_step-requires : goal.record_step-requires
record_step-requires c = along_ready c.requires.short c.loop-step.invariant.along

pub returns-in-End : goal.returns-in-End
returns-in-End c =
    let v = c.requires in
    let k = c.in-Ok.ensures in
    writing_end v c.loop-step.invariant k c.in-End.is

pub returns-in_default : goal.returns-in_default
returns-in_default c =
    let v = c.requires in
    writing_refused v c.loop-step.invariant c.in_default.ensures

pub loop-step-smaller-in-Prototype : goal.loop-step-smaller-in-Prototype
loop-step-smaller-in-Prototype c =
    let v = c.requires in
    let k = c.in-Ok.ensures in
    prototype_less c.loop-step.invariant.along (writing_meets v c.loop-step.invariant k) c.in-Prototype.is

pub loop-step-preserved-in-Prototype : goal.loop-step-preserved-in-Prototype
loop-step-preserved-in-Prototype c =
    let v = c.requires in
    let k = c.in-Ok.ensures in
    writing_prototype v c.loop-step.invariant k c.in-Prototype.is

pub entry_of-entry-requires : goal.entry_of-entry-requires
entry_of-entry-requires c =
    let v = c.requires in
    let k = c.in-Ok.ensures in
    block_later c.loop-step.invariant.along (writing_meets v c.loop-step.invariant k) c.in-Block.is

pub put_record-requires : goal.put_record-requires
put_record-requires c =
    let v = c.requires in
    let k = c.in-Ok.ensures in
    (v.width, omega (arith, writing_room v c.loop-step.invariant k c.in-Block.is, c.loop-step.invariant.size))

pub overflow_mul-to : goal.overflow_mul-to
overflow_mul-to c = omega (arith, c.requires.width.1)

pub overflow_add-to : goal.overflow_add-to
overflow_add-to c =
    let v = c.requires in
    let k = c.in-Ok.ensures in
    omega (arith, writing_room v c.loop-step.invariant k c.in-Block.is, c.loop-step.invariant.size)

pub loop-step-smaller : goal.loop-step-smaller
loop-step-smaller c =
    let v = c.requires in
    let k = c.in-Ok.ensures in
    block_less c.loop-step.invariant.along (writing_meets v c.loop-step.invariant k) c.in-Block.is

pub loop-step-preserved : goal.loop-step-preserved
loop-step-preserved c =
    let v = c.requires in
    let k = c.in-Ok.ensures in
    writing_block v c.loop-step.invariant k c.in-Block.is c.entry_of-entry.ensures c.put_record.ensures
