-- `seek` meets its contract. The loop's invariant: the search for the id has reached the row, and `left` of its 33 steps are left.
use Rattle.bsii_tree.specs.Tree.{Tree}
use Rattle.bsii_tree.specs.Table.{key_of, link_of}
use Rattle.bsii_tree.proofs.Trees.{Reached}
use Rattle.bsii_tree.proofs.seek.Given as goal

abbrev pub invariant-loop-rows : goal.invariant-loop-rows
invariant-loop-rows l = (h : Tree (key_of l.file l.table) (link_of l.table) l.rows) × Reached h l.id l.row l.bits l.left

abbrev pub decreases-loop-rows : goal.decreases-loop-rows
decreases-loop-rows l = l.left
