use Rattle.std.proofs.Common.{◌≡◌, ◌+◌, ◌-◌, ◌∙◌, arith}
use Rattle.bsii_string.proofs.Ends.{row_done, row_next, row_fault}
use Rattle.bsii_string.proofs.Passed.{passed_on}
use Rattle.bsii_string.proofs.rows.row_end.Goals as goal

pub returns-in_err-at : goal.returns-in_err-at
returns-in_err-at g c =
    rw (passed_on c.from_residual.ensures.1)
    (row_fault (g.I.Item.reader c.args.item.now) c.args.s.now (c.args.count - c.loop.counter) c.loop.at (omega arith) c.in_err-at.ensures ∙ c.loop.invariant)

pub loop-preserved : goal.loop-preserved
loop-preserved g c =
    let one_less : c.args.count - (c.loop.counter + 1) ≡ c.args.count - c.loop.counter - 1 = omega arith in
    rw one_less
    (row_next (g.I.Item.reader c.args.item.now) c.args.s.now (c.args.count - c.loop.counter) c.loop.at (g.met.I.Item.exact c.args.item.now) (omega arith) c.in_ok-at.ensures ∙ c.loop.invariant)

pub returns : goal.returns
returns g c = row_done (g.I.Item.reader c.args.item.now) c.args.s.now (c.args.count - c.loop.counter) c.loop.at (omega arith) ∙ c.loop.invariant
