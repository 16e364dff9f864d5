use Prim.Native.Nat.{◌+◌, ◌-◌, ◌/◌}
use mathlib.Core.Path.{refl}
use native.Mathlib.Omega.{arith}
use Rattle.bsii_table.proofs.Search.{bracket_up, bracket_down, bracket_none}
use Rattle.bsii_table.proofs.binary_search.Goals as goal

pub returns-then-held-id : goal.returns-then-held-id
returns-then-held-id c =
    let x = c.loop-low in
    (x.low + (x.high - x.low) / 2, omega arith, refl, c.if-held-id.true)

pub loop-low-preserved-then-held-id-2 : goal.loop-low-preserved-then-held-id-2
loop-low-preserved-then-held-id-2 c = bracket_up c.requires c.loop-low.invariant _ (omega arith) (omega arith) c.if-held-id-2.true

pub loop-low-preserved : goal.loop-low-preserved
loop-low-preserved c = bracket_down c.requires c.loop-low.invariant _ (omega arith) (omega arith) (omega arith)

pub returns : goal.returns
returns c = bracket_none c.loop-low.invariant c.loop-low-test.false
