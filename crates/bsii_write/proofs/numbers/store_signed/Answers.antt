-- Below the half the bits are the number itself (`positive`); from there on they stand for twice the half less, so what is missing to that is its size behind a
-- minus, worked out so that no step leaves 64 bits.
use Prim.Native.Nat.{suc, ◌-◌, ◌*◌}
use mathlib.Core.Path.{◌≡◌, sym}
use native.Mathlib.Omega.{arith}
use Rattle.bsii_window.proofs.Stores.{stored_being}
use Rattle.bsii_write.proofs.NumberLaws.{positive, negative}
use Rattle.bsii_write.proofs.numbers.store_signed.Goals as goal

pub returns-then-n : goal.returns-then-n
returns-then-n g c = (stored_being (sym (positive g.row.HALF c.args.n (omega arith))) c.store_decimal.ensures.0, omega arith)

pub returns : goal.returns
returns g c =
    let half = g.row.HALF in
    let e : 2 * half ≡ suc (2 * half - 1) = omega arith in
    (stored_being (sym (negative half (2 * half - 1) c.args.n _ e (omega arith) (omega arith) (omega arith))) c.store_negative.ensures.0, omega arith)
