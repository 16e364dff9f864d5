-- Inside, the line has room for the longest that it can be, and the stores one behind the other are the line (`line_inside`); else the pieces are.
use mathlib.Core.Path.{◌∙◌}
use native.Mathlib.Omega.{arith}
use Rattle.bsii_format.specs.Text.{id_text}
use Rattle.bsii_window.proofs.Laws.{same}
use Rattle.bsii_window.proofs.Stores.{stored_same}
use Rattle.bsii_line.proofs.Laws.{line_inside, line_pieces, line_id}
use Rattle.bsii_line.proofs.lines.id_line.Goals as goal

pub returns-in-Inside : goal.returns-in-Inside
returns-in-Inside g c =
    let a = c.args in
    line_id (λ i h. line_inside _ (g.L.Label.of a.label a.name.now) (id_text i) c.in-Inside.is c.overlap_of-place.ensures c.store_opening-next.ensures.0 (c.store_id-end.ensures.stores i h) c.store_byte.ensures (omega (arith, c.store_opening-next.ensures.1, c.store_id-end.ensures.most, c.store_byte.ensures.next)) (omega arith))
    (stored_same c.store_byte.ensures ∙ c.store_id-end.ensures.size ∙ stored_same c.store_opening-next.ensures.0)

pub returns : goal.returns
returns g c =
    let a = c.args in
    line_id (λ i h. line_pieces (g.L.Label.of a.label a.name.now) (id_text i) c.put_opening-next.ensures (c.write_id-end.ensures.writes i h) c.put.ensures)
    (same c.put.ensures ∙ c.write_id-end.ensures.size ∙ same c.put_opening-next.ensures)
