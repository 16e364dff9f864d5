-- A number of 64 bits has at most 20 digits, so they fit; filled in up to `count` they start at 0, and the first `count` bytes are the number's text.
use mathlib.Core.Path.{sym, ap, ◌∙◌}
use native.Mathlib.Omega.{arith}
use lib.ListN.{take}
use lib.Seq.{length-take-le}
use Rattle.bsii_format.specs.Digits.{decimal}
use Rattle.bsii_window.proofs.Laws.{being, stored}
use Rattle.bsii_digits.proofs.Counts.{at_most_twenty}
use Rattle.bsii_window.proofs.digits.put_decimal.Goals as goal

pub fill_decimal-requires : goal.fill_decimal-requires
fill_decimal-requires c = (omega (arith, c.requires), omega (arith, c.requires, at_most_twenty c.args.n (omega arith)))

pub slice_bounds-text-end : goal.slice_bounds-text-end
slice_bounds-text-end c = omega (arith, c.requires, at_most_twenty c.args.n (omega arith))

pub slice_bounds-put_all-end : goal.slice_bounds-put_all-end
slice_bounds-put_all-end c = sym (length-take-le c.args.count c.fill_decimal.new.out (omega (arith, c.requires, at_most_twenty c.args.n (omega arith))))

pub returns : goal.returns
returns c =
    let f = c.fill_decimal in
    being
    (ap (take c.args.count) f.ensures
    ∙ stored _ (decimal c.args.n) c.args.count (omega (arith, c.requires)) c.requires (omega (arith, c.requires, at_most_twenty c.args.n (omega arith))))
    c.put_all.ensures
