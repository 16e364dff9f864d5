use mathlib.Core.Path.{sym, ap, ◌∙◌}
use native.Mathlib.Omega.{arith}
use lib.ListN.{drop}
use Rattle.std.specs.Prelude.{Ok}
use Rattle.bsii_string.proofs.Passed.{passed_on}
use Rattle.bsii_prototype.specs.Entries.{fields_with}
use Rattle.bsii_prototype.proofs.Lists.{count_zero, count_later, count_more, count_last, count_bad}
use Rattle.bsii_prototype.proofs.fields.fields_with.Goals as goal

pub loop-next-init : goal.loop-next-init
loop-next-init g c = let a = c.args in (omega arith, count_zero (fields_with g.S.Strings.reader a.start (drop a.start a.s.now)))

pub returns-in_err-next : goal.returns-in_err-next
returns-in_err-next g c =
    rw (passed_on c.from_residual.ensures.1)
    (count_bad g.S.Strings.reader g.met.S.Strings.text.exact c.args.s.now c.loop-next.at c.loop-next.count c.in_err-next.ensures ∙ c.loop-next.invariant.1)

pub overflow_add-count : goal.overflow_add-count
overflow_add-count g c =
    omega (arith, count_later g.S.Strings.reader g.met.S.Strings.text.exact c.args.s.now c.loop-next.at (ap Ok (sym c.in-Field.is) ∙ c.in_ok-next.ensures))

pub loop-next-smaller : goal.loop-next-smaller
loop-next-smaller g c =
    omega (arith, count_later g.S.Strings.reader g.met.S.Strings.text.exact c.args.s.now c.loop-next.at (ap Ok (sym c.in-Field.is) ∙ c.in_ok-next.ensures))

pub loop-next-preserved : goal.loop-next-preserved
loop-next-preserved g c =
    let s = c.args.s.now in
    let x = g.met.S.Strings.text.exact in
    let e = ap Ok (sym c.in-Field.is) ∙ c.in_ok-next.ensures in
    (omega (arith, count_later g.S.Strings.reader x s c.loop-next.at e), count_more g.S.Strings.reader x s c.loop-next.at c.loop-next.count e ∙ c.loop-next.invariant.1)

pub returns-in-Last : goal.returns-in-Last
returns-in-Last g c =
    count_last g.S.Strings.reader g.met.S.Strings.text.exact c.args.s.now c.loop-next.at c.loop-next.count (ap Ok (sym c.in-Last.is) ∙ c.in_ok-next.ensures)
    ∙ c.loop-next.invariant.1
