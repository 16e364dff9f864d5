-- An accepted value that is numbers ends where numeric_end does, so that the bytes up to there are its own, and the line is theirs; an enum's is write_enum's.
use Rattle.bsii_value.specs.Kinds.{numeric_is}
use Rattle.bsii_value.proofs.ElementTexts.{other}
use Rattle.bsii_write_value.proofs.LineLaws.{numeric_refused, numeric_own}
use Rattle.bsii_write_value.proofs.values.write_number.Goals as goal

pub returns-in_default-numeric_end : goal.returns-in_default-numeric_end
returns-in_default-numeric_end g c = let a = c.args in numeric_refused (g.L.Label.of a.label) a.s.now a.at a.d (numeric_is a.n) c.in_default-numeric_end.ensures

pub returns : goal.returns
returns g c =
    let a = c.args in
    numeric_own (g.L.Label.of a.label) a.s.now a.at a.d (numeric_is a.n) (other a.n c.in_default.not-Enum) c.in-Ok.ensures c.number_line.ensures
