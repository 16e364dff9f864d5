-- Where a prototype was accepted, its head and its fields are passed without a fault: the name stands 13 bytes behind the offset and ends where
-- the fields start, and the fields passed are as many as it has. A fault thus says that none stands here.
use mathlib.Core.Path.{refl}
use native.Mathlib.Omega.{arith}
use Rattle.bsii_walk.proofs.Naming.{name_inside}
use Rattle.bsii_file.proofs.Definitions.{head_fault, list_fault, prototype_here}
use Rattle.bsii_file.proofs.prototypes.prototype_at.Goals as goal

pub overflow_add-name : goal.overflow_add-name
overflow_add-name c =
    let a = c.args in
    let w = name_inside a.s.now a.offset c.in_ok-first.ensures refl in
    omega (arith, w.0, w.1)

pub overflow_sub-result : goal.overflow_sub-result
overflow_sub-result c =
    let a = c.args in
    let w = name_inside a.s.now a.offset c.in_ok-first.ensures refl in
    omega (arith, w.0)

pub returns-in_err-first : goal.returns-in_err-first
returns-in_err-first c = head_fault c.in_err-first.ensures _

pub returns-in_err-list : goal.returns-in_err-list
returns-in_err-list c = list_fault c.in_ok-first.ensures c.in_err-list.ensures _

pub returns : goal.returns
returns c = prototype_here c.in_ok-first.ensures c.in_ok-list.ensures
