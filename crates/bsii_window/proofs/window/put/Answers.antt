-- A byte in front of the window (`written_none`) or past its end (`written_past`) leaves it as it was; else it is the one at its index (`written_in`).
use mathlib.Core.Path.{sym}
use mathlib.Core.List.{[], ◌∷◌}
use native.Mathlib.Omega.{arith}
use Rattle.bsii_window.proofs.Laws.{capped_fits, written_none, written_past, written_in}
use borrow.Author.Rules.{rules}
use Rattle.bsii_window.proofs.window.put.Goals as goal

pub returns-then-at-lt-ORIGIN : goal.returns-then-at-lt-ORIGIN
returns-then-at-lt-ORIGIN c = let a = c.args in record { next = search rules; window = sym (written_none a.out.now a.at (a.byte ∷ []) (omega arith)); room = omega arith }

pub returns-then-out-index : goal.returns-then-out-index
returns-then-out-index c = let a = c.args in record { next = search rules; window = sym (written_past a.out.now a.at (a.byte ∷ []) (omega arith) (omega arith)); room = omega arith }

pub returns : goal.returns
returns c =
    let a = c.args in
    record { next = sym (capped_fits a.at 1 (omega arith)); window = sym (written_in a.out.now a.at (a.byte ∷ []) (omega arith)); room = omega arith }
