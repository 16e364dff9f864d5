use Prim.Native.Nat.{◌+◌, ◌-◌, ◌%◌}
use native.Mathlib.Numerals.{unary_clauses}
use mathlib.Core.Path.{◌≡◌, ap}
use native.Mathlib.Omega.{arith}
use lib.ListN.{length, length-append}
use Rattle.bsii_text_length.proofs.WordLaws.{at_most_thirteen}
use Rattle.bsii_write_id.proofs.IdLaws.{word_text, dotted_more, dotted_none}
use Rattle.bsii_write_id.proofs.ids.dotted_length.Goals as goal

pub loop-init : goal.loop-init
loop-init c = simp unary_clauses (omega arith, omega arith, omega arith)

pub overflow_add-long : goal.overflow_add-long
overflow_add-long c = omega (arith, c.word_length.ensures, at_most_thirteen (c.u64_at.result % 0x8000_0000_0000_0000) (omega arith))

pub overflow_add-long-in-loop : goal.overflow_add-long-in-loop
overflow_add-long-in-loop c = omega (arith, c.word_length.ensures, at_most_thirteen (c.u64_at.result % 0x8000_0000_0000_0000) (omega arith))

pub overflow_add-place : goal.overflow_add-place
overflow_add-place c = omega arith

pub loop-preserved : goal.loop-preserved
loop-preserved c =
    let l = c.loop in
    let s = c.args.raw.now in
    let k = at_most_thirteen (c.u64_at.result % 0x8000_0000_0000_0000) (omega arith) in
    let e = ap length (dotted_more (c.args.count - l.counter) s l.place (omega arith)) in
    let one_less : c.args.count - (l.counter + 1) ≡ c.args.count - l.counter - 1 = omega arith in
    let w = ap length (word_text s l.place c.u64_at.ensures) in
    rw one_less (omega (arith, l.invariant.0, c.word_length.ensures, w, simp length-append at e), omega (arith, c.word_length.ensures, k), omega arith)

pub returns : goal.returns
returns c =
    let l = c.loop in
    (omega (arith, l.invariant.0, ap length (dotted_none (c.args.count - l.counter) c.args.raw.now l.place (omega arith))), omega arith)
