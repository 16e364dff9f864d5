-- Inside, the line has room for the longest that it can be, and the stores one behind the other are the line (`line_inside`); else the pieces are.
use mathlib.Core.Path.{sym}
use native.Mathlib.Omega.{arith}
use Rattle.bsii_format.specs.Digits.{decimal}
use Rattle.bsii_line.proofs.Laws.{line_inside, line_pieces}
use Rattle.bsii_line.proofs.lines.count_line.Goals as goal

pub returns-in-Inside : goal.returns-in-Inside
returns-in-Inside c =
    rw (sym c.from-wide.ensures)
    (line_inside _ c.args.name.now (decimal c.from-wide.result) c.in-Inside.is c.overlap_of-place.ensures c.store_opening-next.ensures.0 c.store_decimal-end.ensures.0 c.store_byte.ensures (omega (arith, c.store_opening-next.ensures.1, c.store_decimal-end.ensures.1, c.store_byte.ensures.next)) (omega arith))

pub returns : goal.returns
returns c =
    rw (sym c.from-wide.ensures)
    (line_pieces c.args.name.now (decimal c.from-wide.result) c.put_opening-next.ensures c.write_decimal-end.ensures c.put.ensures)
