use Rattle.bsii_line.proofs.Laws.{line_pieces}
use Rattle.bsii_line.proofs.lines.text_line.Goals as goal

pub returns : goal.returns
returns g c = let a = c.args in line_pieces (g.L.Label.of a.label a.name.now) _ c.put_opening-next.ensures c.write_string-end.ensures c.put.ensures
