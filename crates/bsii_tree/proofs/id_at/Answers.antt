-- `id_at` meets its contract: the four bytes are there, so they are the number.
use Prim.Native.Nat.{◌+◌}
use native.Mathlib.Omega.{arith}
use mathlib.Core.Path.{sym, ◌∙◌}
use Rattle.bsii_format.proofs.Positions.{number_at_law}
use Rattle.bsii_string.proofs.NumbersAt.{number_is_law}
use Rattle.bsii_tree.proofs.id_at.Goals as goal

pub returns : goal.returns
returns c =
    let a = c.args in
    let at = a.offset + 5 in
    c.quad.ensures ∙ sym (number_is_law 4 a.file.now at (number_at_law 4 a.file.now at (omega arith)))
