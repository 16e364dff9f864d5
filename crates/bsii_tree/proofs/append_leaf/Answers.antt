-- `append_leaf` meets its contract: the three words of the row.
use native.Mathlib.Omega.{arith}
use lib.ListN.{length-set}
use Rattle.bsii_tree.proofs.Words.{leaf_written}
use Rattle.bsii_tree.proofs.append_leaf.Goals as goal

pub bounds-table-at-2 : goal.bounds-table-at-2
bounds-table-at-2 c = simp length-set (omega arith)

pub bounds-table-at-3 : goal.bounds-table-at-3
bounds-table-at-3 c = simp length-set (omega arith)

pub returns : goal.returns
returns c = leaf_written c.args.table.now c.args.rows c.args.offset c.requires
