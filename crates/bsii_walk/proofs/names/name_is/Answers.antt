-- A name stands 13 bytes behind the offset, up to where the fields start. Where a prototype was accepted, its head is passed without a fault.
use mathlib.Core.Bool.{false}
use native.Mathlib.Omega.{arith}
use Rattle.bsii_walk.proofs.Naming.{name_inside, name_fault, name_same}
use Rattle.bsii_walk.proofs.names.name_is.Goals as goal

pub returns-in_default : goal.returns-in_default
returns-in_default c = let a = c.args in name_fault a.s.now a.offset c.fields_at.ensures a.name.now c.in_default.is false

pub overflow_add-start : goal.overflow_add-start
overflow_add-start c = let a = c.args in let w = name_inside a.s.now a.offset c.fields_at.ensures c.in-Ok.is in omega (arith, w.0, w.1)

pub slice_bounds-eq-count : goal.slice_bounds-eq-count
slice_bounds-eq-count c = let a = c.args in (name_inside a.s.now a.offset c.fields_at.ensures c.in-Ok.is).0

pub slice_bounds-eq-start : goal.slice_bounds-eq-start
slice_bounds-eq-start c = let a = c.args in let w = name_inside a.s.now a.offset c.fields_at.ensures c.in-Ok.is in omega (arith, w.0)

pub slice_bounds-eq-end : goal.slice_bounds-eq-end
slice_bounds-eq-end c = let a = c.args in let w = name_inside a.s.now a.offset c.fields_at.ensures c.in-Ok.is in omega (arith, w.1)

pub returns : goal.returns
returns c = let a = c.args in name_same a.s.now a.offset c.fields_at.ensures a.name.now c.in-Ok.is c.eq.ensures
