use mathlib.Core.Path.{refl, ap}
use native.Mathlib.Omega.{arith}
use Rattle.std.specs.Prelude.{Ok}
use Rattle.bsii_format.specs.Text.{value_text}
use Rattle.bsii_format.specs.BlockText.{every_block}
use Rattle.bsii_string.proofs.Passed.{passed_on}
use Rattle.bsii_text.proofs.WalkLaws.{go_start, go_rows, go_end, go_refused, go_later, go_on}
use Rattle.bsii_text.proofs.records.write_records.Goals as goal

pub loop-lines-init : goal.loop-lines-init
loop-lines-init c = let a = c.args in go_start value_text every_block a.version a.s.now a.start a.table.now a.rows a.out.now a.to c.requires.inside (omega arith) (omega arith)

pub write_record-requires : goal.write_record-requires
write_record-requires c =
    let a = c.args in
    let x = c.loop-lines in
    (c.requires.short, x.invariant.inside, go_rows value_text every_block a.version a.s.now a.start a.table.now a.rows a.out.now a.to x.at x.here x.table x.out x.invariant c.requires)

pub returns-in_err-lines : goal.returns-in_err-lines
returns-in_err-lines c =
    let a = c.args in
    let x = c.loop-lines in
    rw (passed_on c.from_residual.ensures.1)
    (go_refused value_text every_block a.version a.s.now a.start a.table.now a.rows a.out.now a.to x.at x.here x.table x.out x.invariant c.in_err-lines.ensures refl)

pub loop-lines-smaller : goal.loop-lines-smaller
loop-lines-smaller c =
    let a = c.args in
    let x = c.loop-lines in
    omega (arith, go_later value_text every_block a.version a.s.now a.start a.table.now a.rows a.out.now a.to x.at x.here x.table x.out x.invariant c.in_ok-lines.ensures _ _ (ap Ok c.in-Some.is) c.requires)

pub loop-lines-preserved : goal.loop-lines-preserved
loop-lines-preserved c =
    let a = c.args in
    let x = c.loop-lines in
    go_on value_text every_block a.version a.s.now a.start a.table.now a.rows a.out.now a.to x.at x.here x.table x.out x.invariant c.in_ok-lines.ensures _ _ (ap Ok c.in-Some.is) c.requires

pub returns : goal.returns
returns c =
    let a = c.args in
    let x = c.loop-lines in
    go_end value_text every_block a.version a.s.now a.start a.table.now a.rows a.out.now a.to x.at x.here x.table x.out x.invariant c.in_ok-lines.ensures (ap Ok c.in_default.is)
