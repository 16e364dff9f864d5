use Prim.Native.Nat.{◌+◌, ◌-◌}
use native.Mathlib.Omega.{arith}
use Rattle.bsii_index_record.proofs.Numbers.{read_none, read_more, read_all, bound_none, bound_more, bound_three}
use Rattle.bsii_index_record.proofs.number_at.Goals as goal

pub loop-i-init : goal.loop-i-init
loop-i-init c = let a = c.args in (read_none a.s.now a.at a.width, bound_none a.width)

pub overflow_mul-n : goal.overflow_mul-n
overflow_mul-n c = let l = c.loop-i in omega (arith, bound_three c.args.width l.i l.n (omega arith) c.requires.0.1 l.invariant.1)

pub overflow_add-n : goal.overflow_add-n
overflow_add-n c =
    let l = c.loop-i in
    omega (arith, bound_three c.args.width l.i l.n (omega arith) c.requires.0.1 l.invariant.1, c.type_inv.s (c.args.at + (l.i - 1)))

pub loop-i-preserved : goal.loop-i-preserved
loop-i-preserved c =
    let a = c.args in
    let l = c.loop-i in
    rw c.from.ensures (
      read_more a.s.now a.at a.width l.i l.n (omega arith) (omega arith) l.invariant.0,
      bound_more a.width l.i l.n _ (omega arith) (omega arith) l.invariant.1 (omega (arith, c.type_inv.s (a.at + (l.i - 1)))),
    )

pub returns : goal.returns
returns c =
    let a = c.args in
    let l = c.loop-i in
    read_all a.s.now a.at a.width l.i l.n (omega arith) l.invariant.0
