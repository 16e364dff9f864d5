-- `hex_padded` has as many digits as it is asked for, 16 at most, so they fit; filled in up to `count` they start at 0, and the first `count` bytes are all.
use mathlib.Core.Path.{sym, ap, ◌∙◌}
use native.Mathlib.Omega.{arith}
use lib.ListN.{take}
use Rattle.bsii_format.specs.Digits.{hex_padded}
use Rattle.bsii_window.proofs.Laws.{being, stored}
use Rattle.bsii_digits.proofs.DigitLaws.{padded_length}
use Rattle.bsii_window.proofs.digits.put_hex.Goals as goal

pub returns : goal.returns
returns c =
    let f = c.fill_hex in
    being
    (ap (take c.args.count) f.ensures
    ∙ stored _ (hex_padded c.args.count c.args.n) c.args.count (omega arith) (sym (padded_length c.args.count c.args.n)) (omega (arith, c.requires)))
    c.put_all.ensures
