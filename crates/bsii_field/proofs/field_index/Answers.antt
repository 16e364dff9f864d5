use Prim.Native.Nat.{◌+◌}
use native.Mathlib.Omega.{arith}
use Rattle.bsii_prototype.proofs.Inside.{field_inside}
use Rattle.bsii_field.proofs.Names.{size_other, byte_other, byte_more, bytes_all, seek_start, seek_none, seek_here, seek_on}
use Rattle.bsii_field.proofs.field_index.Goals as goal

pub definitions-init : goal.definitions-init
definitions-init c = (omega arith, seek_start)

pub definitions-preserved-then-found-start : goal.definitions-preserved-then-found-start
definitions-preserved-then-found-start c =
    let a = c.args in
    let x = c.definitions in
    let z = field_inside a.s.now x.field c.in-Some.ensures.1 in
    let other = size_other a.s.now a.name.now (x.field + 8) c.in-Some.found.name_end (z.2, z.3) c.if-found-start.true in
    (omega (arith, z), seek_on x.invariant.1 c.in-Some.ensures.1 other)

pub definitions-preserved : goal.definitions-preserved
definitions-preserved c =
    let a = c.args in
    let x = c.definitions in
    let other = byte_other a.s.now a.name.now (x.field + 8) c.in-Some.found.name_end c.loop-i.i (omega arith) c.if-s-start.true in
    (omega (arith, field_inside a.s.now x.field c.in-Some.ensures.1), seek_on x.invariant.1 c.in-Some.ensures.1 other)

pub loop-i-preserved : goal.loop-i-preserved
loop-i-preserved c =
    let a = c.args in
    let x = c.definitions in
    byte_more a.s.now a.name.now (x.field + 8) c.in-Some.found.name_end c.loop-i.i c.loop-i.invariant (omega arith)
    (omega (arith, field_inside a.s.now x.field c.in-Some.ensures.1))
    c.if-s-start.false

pub returns-in-Some : goal.returns-in-Some
returns-in-Some c =
    let a = c.args in
    let x = c.definitions in
    let whole = bytes_all a.s.now a.name.now (x.field + 8) c.in-Some.found.name_end c.loop-i.i c.loop-i.invariant (omega arith) (omega arith) in
    seek_here x.invariant.1 c.in-Some.ensures.1 whole

pub returns : goal.returns
returns c = seek_none c.definitions.invariant.1 c.in_default.ensures
