-- An accepted word is a number's low 63 bits, and the line is theirs.
use Rattle.bsii_format.specs.Strings.{low63}
use Rattle.bsii_write_value.proofs.ValueLaws.{word_short, word_line}
use Rattle.bsii_write_value.proofs.values.write_word.Goals as goal

pub returns-in_default : goal.returns-in_default
returns-in_default g c = let a = c.args in word_short (g.L.Label.of a.label) a.s.now a.at a.d c.in_default.ensures

pub returns : goal.returns
unfolding low63
returns g c = let a = c.args in word_line (g.L.Label.of a.label) a.s.now a.at a.d c.in-Ok.ensures c.word_line.ensures
