-- The record that was accepted here has the kind that kind_at says: an end leaves no records; a prototype adds no text, only its definition to those
-- in force; a block adds its text. The other kinds contradict it in each arm.
use mathlib.Core.Path.{refl, ap}
use Rattle.std.specs.Prelude.{Some}
use native.Mathlib.Omega.{arith}
use Rattle.bsii_format.specs.Text.{value_text}
use Rattle.bsii_format.specs.BlockText.{every_block}
use Rattle.bsii_text.proofs.RecordLaws.{record_end, record_prototype, record_block}
use Rattle.bsii_text.proofs.records.write_record.Goals as goal

pub returns-in-None : goal.returns-in-None
returns-in-None c = let a = c.args in record_end value_text every_block a.s.now a.at a.table.now a.rows a.out.now a.to c.requires.1 c.in-None.ensures refl

pub returns-in-Some-Defines : goal.returns-in-Some-Defines
returns-in-Some-Defines c = let a = c.args in record_prototype value_text every_block a.s.now a.at a.table.now a.rows a.out.now a.to c.requires.1 c.in-Some-Defines.ensures (ap Some c.in-Some-Defines.field-0-is) (omega arith) (omega arith) c.pass_prototype.ensures

pub returns-in-Some-Carries : goal.returns-in-Some-Carries
returns-in-Some-Carries c = let a = c.args in record_block value_text every_block a.s.now a.at a.table.now a.rows a.out.now a.to c.requires.1 c.in-Some-Carries.ensures (λ rooms last env b l w. refl) (ap Some c.in-Some-Carries.field-0-is) c.write_block.ensures
