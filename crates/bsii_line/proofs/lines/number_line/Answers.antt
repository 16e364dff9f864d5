-- Inside, the line has room for the longest that it can be, and the stores one behind the other are the line (`line_inside`); else the pieces are.
use mathlib.Core.Path.{◌∙◌}
use native.Mathlib.Omega.{arith}
use Rattle.bsii_window.proofs.Laws.{same}
use Rattle.bsii_window.proofs.Stores.{stored_same}
use Rattle.bsii_line.proofs.Laws.{line_inside, line_pieces, line_numbers}
use Rattle.bsii_line.proofs.lines.number_line.Goals as goal

pub returns-in-Inside : goal.returns-in-Inside
returns-in-Inside g c =
    let a = c.args in
    line_numbers (λ e n t h x f. line_inside _ (g.L.Label.of a.label a.name.now) x c.in-Inside.is c.overlap_of-place.ensures c.store_opening-next.ensures.0 (c.store_numeric-end.ensures.stores e n t h x f) c.store_byte.ensures (omega (arith, c.store_opening-next.ensures.1, c.store_numeric-end.ensures.most, c.store_byte.ensures.next)) (omega arith))
    (stored_same c.store_byte.ensures ∙ c.store_numeric-end.ensures.size ∙ stored_same c.store_opening-next.ensures.0)

pub returns : goal.returns
returns g c =
    let a = c.args in
    line_numbers (λ e n t h x f. line_pieces (g.L.Label.of a.label a.name.now) x c.put_opening-next.ensures (c.write_numeric-end.ensures.writes e n t h x f) c.put.ensures)
    (same c.put.ensures ∙ c.write_numeric-end.ensures.size ∙ same c.put_opening-next.ensures)
