-- The pair of definitions says which case it is, and the value's lines what is written: one law for each way out.
use native.Mathlib.Omega.{arith}
use Rattle.bsii_format.specs.Text.{value_text}
use Rattle.bsii_write_block.proofs.FieldLaws.{turn_ends, turn_uneven, turn_absent, turn_on}
use Rattle.bsii_write_block.proofs.blocks.write_next.Goals as goal

pub returns-in-Ends : goal.returns-in-Ends
returns-in-Ends c =
    let a = c.args in
    turn_ends value_text a.version a.s.now a.p.field a.p.last_field a.p.at a.p.to a.out.now (omega arith) (omega arith) c.in-Ends.ensures

pub returns-in-Uneven : goal.returns-in-Uneven
returns-in-Uneven c =
    let a = c.args in
    turn_uneven value_text a.version a.s.now a.p.field a.p.last_field a.p.at a.p.to a.out.now c.in-Uneven.ensures _

pub returns-in_default : goal.returns-in_default
returns-in_default c =
    let a = c.args in
    turn_absent value_text a.version a.s.now a.p.field a.p.last_field a.p.at a.p.to a.out.now c.in-Both.ensures c.refused.ensures c.in_default.ensures

pub returns-in-Some : goal.returns-in-Some
returns-in-Some c =
    let a = c.args in
    let p = c.in-Both.ensures in (
      omega (arith, p.inside),
      omega (arith, p.inside),
      c.in-Some.ensures.size,
      turn_on value_text a.version a.s.now a.p.field a.p.last_field a.p.at a.p.to a.out.now p c.in-Some.ensures,
    )
