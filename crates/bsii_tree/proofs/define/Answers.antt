-- `define` meets its contract: the law of the arm that was taken, a first row, an id that has a row, a leaf where `seek` ended, or no room.
use native.Mathlib.Omega.{arith}
use mathlib.Core.Path.{refl}
use Rattle.bsii_tree.specs.Table.{put, full}
use Rattle.bsii_tree.proofs.Words.{row_missed, plants, slot_redefined, slot_missed, slot_hung}
use Rattle.bsii_tree.proofs.define.Goals as goal

pub returns-then-table-lt3 : goal.returns-then-table-lt3
returns-then-table-lt3 c = full (record { new = row_missed c.requires.0 c.args.id (λ i l e. omega arith); short = omega arith; same = refl })

pub returns-then-rows-eq0 : goal.returns-then-rows-eq0
returns-then-rows-eq0 c = put (plants c.if-rows-eq0.true c.requires.0 c.requires.1 (omega arith) c.append_leaf.ensures)

pub returns-in-Row : goal.returns-in-Row
returns-in-Row c = put (slot_redefined c.requires.0 c.args.id c.in-Row.is c.seek.ensures c.requires.1)

pub returns-then-table-rows-lt3 : goal.returns-then-table-rows-lt3
returns-then-table-rows-lt3 c = full (record { new = slot_missed c.requires.0 c.args.id c.in-Link.is c.seek.ensures; short = omega arith; same = refl })

pub returns-else-table-rows-lt3 : goal.returns-else-table-rows-lt3
returns-else-table-rows-lt3 c =
    put
    (slot_hung c.requires.0 c.args.id c.in-Link.is c.seek.ensures c.requires.1 (omega arith)
    c.append_leaf-in-Link.ensures)
