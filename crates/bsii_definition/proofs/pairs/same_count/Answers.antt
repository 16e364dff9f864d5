use mathlib.Core.Path.{subst}
use native.Mathlib.Omega.{arith}
use Rattle.bsii_definition.specs.Pairs.{PairOf}
use Rattle.bsii_definition.proofs.PairLaws.{count_start, count_ends, count_uneven, count_on}
use Rattle.bsii_definition.proofs.pairs.same_count.Goals as goal

pub loop-next-init : goal.loop-next-init
loop-next-init c = let a = c.args in count_start a.s.now a.fields a.last_fields

pub returns-in-Ends : goal.returns-in-Ends
returns-in-Ends c =
    let a = c.args in
    count_ends a.s.now a.fields a.last_fields c.loop-next.field c.loop-next.last_field c.loop-next.invariant
    (subst (PairOf a.s.now c.loop-next.field c.loop-next.last_field) c.in-Ends.is c.unlike_pair.ensures)

pub returns-in-Uneven : goal.returns-in-Uneven
returns-in-Uneven c =
    let a = c.args in
    count_uneven a.s.now a.fields a.last_fields c.loop-next.field c.loop-next.last_field c.loop-next.invariant
    (subst (PairOf a.s.now c.loop-next.field c.loop-next.last_field) c.in-Uneven.is c.unlike_pair.ensures)

pub loop-next-smaller : goal.loop-next-smaller
loop-next-smaller c =
    let a = c.args in
    let p = subst (PairOf a.s.now c.loop-next.field c.loop-next.last_field) c.in-Both.is c.unlike_pair.ensures in
    omega (arith, p.inside)

pub loop-next-preserved : goal.loop-next-preserved
loop-next-preserved c =
    let a = c.args in
    count_on a.s.now a.fields a.last_fields c.loop-next.field c.loop-next.last_field c.loop-next.invariant
    (subst (PairOf a.s.now c.loop-next.field c.loop-next.last_field) c.in-Both.is c.unlike_pair.ensures)
