use mathlib.Core.Path.{◌≡◌}
use Prim.Native.Nat.{◌+◌, ◌-◌}
use native.Mathlib.Omega.{arith}
use Rattle.bsii_definition.proofs.EnumLaws.{search_start, search_broken, search_here, search_past, search_done}
use Rattle.bsii_definition.proofs.enums.last_pair.Goals.{then-wanted-pair, else-wanted-pair}
use Rattle.bsii_definition.proofs.enums.last_pair.Goals as goal

pub loop-init : goal.loop-init
loop-init c =
    let a = c.args in
    let all : a.count - 0 ≡ a.count = omega arith in
    rw all (search_start a.s.now a.start a.count a.wanted)

pub returns-in_err-pair : goal.returns-in_err-pair
returns-in_err-pair c =
    let a = c.args in
    rw c.from_residual.ensures
    (search_broken a.s.now a.start a.count a.wanted c.loop.found c.loop.at (a.count - c.loop.counter) c.loop.invariant (omega arith) c.in_err-pair.ensures)

pub loop-preserved : goal.loop-preserved
loop-preserved c =
    let a = c.args in
    let x = c.loop in
    let left = a.count - x.counter in
    let one_less : a.count - (x.counter + 1) ≡ left - 1 = omega arith in
    let p = c.in_ok-pair.ensures in
    rw one_less
    (elim c.if-wanted-pair.branch [
      | then-wanted-pair w ↦ rw w.found-is (search_here a.s.now a.start a.count a.wanted x.found x.at left x.invariant (omega arith) p w.if-wanted-pair.true)
      | else-wanted-pair w ↦ rw w.found-is (search_past a.s.now a.start a.count a.wanted x.found x.at left x.invariant (omega arith) p w.if-wanted-pair.false)
    ])

pub returns : goal.returns
returns c =
    let a = c.args in
    search_done a.s.now a.start a.count a.wanted c.loop.found c.loop.at (a.count - c.loop.counter) c.loop.invariant (omega arith)
