-- Inside, the line has room for the longest that it can be, and the stores one behind the other are the line (`line_inside`); else the pieces are.
use native.Mathlib.Omega.{arith}
use Rattle.bsii_text_length.specs.Words.{encoded_text}
use Rattle.bsii_line.proofs.Laws.{line_inside, line_pieces}
use Rattle.bsii_line.proofs.lines.word_line.Goals as goal

pub returns-in-Inside : goal.returns-in-Inside
returns-in-Inside g c =
    let a = c.args in
    line_inside _ (g.L.Label.of a.label a.name.now) (encoded_text a.word) c.in-Inside.is c.overlap_of-place.ensures c.store_opening-next.ensures.0 c.store_encoded-end.ensures.0 c.store_byte.ensures (omega (arith, c.store_opening-next.ensures.1, c.store_encoded-end.ensures.1, c.store_byte.ensures.next)) (omega arith)

pub returns : goal.returns
returns g c = let a = c.args in line_pieces (g.L.Label.of a.label a.name.now) (encoded_text a.word) c.put_opening-next.ensures c.write_encoded_string-end.ensures c.put.ensures
