-- Below two bytes `copy_last` stores them all; else it stores what is left behind the first two, and the two pieces are the whole name (`rest_stored`).
use mathlib.Core.Path.{◌∙◌}
use native.Mathlib.Omega.{arith}
use Rattle.bsii_copy.proofs.Copies.{rest_stored}
use Rattle.bsii_copy.proofs.names.copy_below_four.Goals as goal

pub returns : goal.returns
returns c =
    let a = c.args in
    c.copy_last-2.ensures ∙ rest_stored a.out.now a.start a.name.now 2 (omega arith) c.copy_piece.ensures
