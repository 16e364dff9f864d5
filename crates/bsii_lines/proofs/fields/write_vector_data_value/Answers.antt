use native.Mathlib.Omega.{arith}
use Rattle.bsii_value.specs.Kinds.{kind_is}
use Rattle.bsii_lines.proofs.ArrayLaws.{go_start, go_absent, go_on, go_done}
use Rattle.bsii_lines.proofs.fields.write_vector_data_value.Goals as goal

pub loop-i-init : goal.loop-i-init
loop-i-init c = let a = c.args in go_start a.s.now a.start (kind_is a.kind) a.d a.count a.out.now a.to (omega arith) (omega arith)

pub returns-in_err-line : goal.returns-in_err-line
returns-in_err-line c =
    let a = c.args in
    let x = c.loop-i in
    rw c.from_residual.ensures
    (go_absent a.s.now a.start (kind_is a.kind) a.d a.count a.out.now a.to x.at x.here x.i x.out x.invariant (omega arith) c.in_err-line.ensures)

pub loop-i-preserved : goal.loop-i-preserved
loop-i-preserved c =
    let a = c.args in
    let x = c.loop-i in
    go_on a.s.now a.start (kind_is a.kind) a.d a.count a.out.now a.to x.at x.here x.i x.out x.invariant (omega arith) c.in_ok-line.ensures

pub returns : goal.returns
returns c =
    let a = c.args in
    let x = c.loop-i in
    go_done a.s.now a.start (kind_is a.kind) a.d a.count a.out.now a.to x.at x.here x.i x.out x.invariant (omega arith)
