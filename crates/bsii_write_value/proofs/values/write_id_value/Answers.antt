-- An accepted id ends where skip_id does, so that the bytes up to there are its own, and the line is theirs.
use Rattle.bsii_write_value.proofs.LineLaws.{id_refused, id_own}
use Rattle.bsii_write_value.proofs.values.write_id_value.Goals as goal

pub returns-in_default : goal.returns-in_default
returns-in_default g c = let a = c.args in id_refused (g.L.Label.of a.label) a.s.now a.at a.d c.in_default.ensures

pub returns : goal.returns
returns g c = let a = c.args in id_own (g.L.Label.of a.label) a.s.now a.at a.d c.in-Ok.ensures c.id_line.ensures
