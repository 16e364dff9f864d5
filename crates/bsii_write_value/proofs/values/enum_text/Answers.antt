-- An enum value is one number. Its text is the string that the definition's list has for it, which enum_string finds, inside the file, or none.
use Rattle.bsii_write_value.proofs.ValueLaws.{enum_unread, enum_read}
use Rattle.bsii_write_value.proofs.values.enum_text.Goals as goal

pub returns-in_default : goal.returns-in_default
returns-in_default c = let a = c.args in enum_unread a.s.now a.at a.d c.in_default.ensures

pub returns : goal.returns
returns c = let a = c.args in enum_read a.s.now a.at a.d c.in-Ok.ensures c.enum_string.ensures
