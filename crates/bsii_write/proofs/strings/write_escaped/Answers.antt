use Rattle.bsii_window.proofs.Loops.{begin, turn, end}
use Rattle.bsii_text_length.proofs.StringLaws.{escaped_none}
use Rattle.bsii_write.proofs.RunLaws.{run_after, run_inside, run_then}
use native.Mathlib.Omega.{arith}
use Rattle.bsii_write.proofs.strings.write_escaped.Goals as goal

pub loop-i-init : goal.loop-i-init
loop-i-init c = begin (omega arith) (omega arith)

pub write_run-to-requires : goal.write_run-to-requires
write_run-to-requires c =
    let s = c.args.bytes.now in
    let i = c.loop-i.i in
    (omega (arith, run_after s i, c.run_end-end.ensures), omega (arith, run_inside s i (omega arith), c.run_end-end.ensures))

pub overflow_add-i : goal.overflow_add-i
overflow_add-i c =
    let a = c.args in
    let loop = c.loop-i in
    let run_end = c.run_end-end in
    omega (arith, run_inside a.bytes.now loop.i (omega arith), run_end.ensures)

pub loop-i-smaller : goal.loop-i-smaller
loop-i-smaller c =
    let a = c.args in
    let loop = c.loop-i in
    let run_end = c.run_end-end in
    omega (arith, run_after a.bytes.now loop.i, run_end.ensures)

pub loop-i-preserved : goal.loop-i-preserved
loop-i-preserved c =
    let a = c.args in
    let loop = c.loop-i in
    let run_end = c.run_end-end in
    turn loop.invariant c.write_run-to.ensures (run_then a.bytes.now loop.i run_end.result run_end.ensures)

pub returns : goal.returns
returns c = end c.loop-i.invariant (escaped_none c.args.bytes.now c.loop-i.i c.loop-i-test.false)
