-- An accepted string ends where skip_str does, and its bytes stand behind their length.
use Rattle.bsii_write_value.proofs.ValueLaws.{string_short, string_line}
use Rattle.bsii_write_value.proofs.values.write_string_value.Goals as goal

pub returns-in_default : goal.returns-in_default
returns-in_default g c = let a = c.args in string_short (g.L.Label.of a.label) a.s.now a.at a.d c.in_default.ensures

pub returns : goal.returns
returns g c = let a = c.args in string_line (g.L.Label.of a.label) a.s.now a.at a.d c.in-Ok.ensures c.text_line.ensures
