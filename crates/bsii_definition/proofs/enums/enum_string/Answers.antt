-- A type other than 0x37 has the empty list, where no number is found; a list without a count is never accepted; else last_pair looks through
-- `count` pairs behind the count, and these are the list.
use mathlib.Core.Path.{sym}
use Rattle.bsii_definition.proofs.EnumLaws.{no_list, no_count, a_list}
use Rattle.bsii_definition.proofs.enums.enum_string.Goals as goal

pub returns-then-type_id-ne55 : goal.returns-then-type_id-ne55
returns-then-type_id-ne55 c = let a = c.args in no_list a.s.now a.at a.type_id a.wanted c.if-type_id-ne55.true

pub returns-in_default : goal.returns-in_default
returns-in_default c = let a = c.args in no_count a.s.now a.at a.type_id a.wanted c.if-type_id-ne55.false (sym c.in_default.ensures)

pub returns : goal.returns
returns c = let a = c.args in a_list a.s.now a.at a.type_id a.wanted c.if-type_id-ne55.false (sym c.in-Ok.ensures) c.last_pair.ensures
