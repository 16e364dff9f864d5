use mathlib.Core.Path.{sym, ◌∙◌}
use borrow.Author.Tests.{eq-eqb, ne_eqb}
use Rattle.replay.proofs.compare.same_counts.Goals as goal

pub returns-then-reply-ne0 : goal.returns-then-reply-ne0
returns-then-reply-ne0 c = rw (ne_eqb c.args.reply 0 c.if-reply-ne0.true)

pub returns-then-p-size : goal.returns-then-p-size
returns-then-p-size c =
    let a = c.args in
    rw (eq-eqb a.reply 0 c.if-reply-ne0.false, ne_eqb a.p a.prototypes (λ e. c.if-p-size.true (e ∙ sym c.size.ensures)))

pub returns : goal.returns
returns c =
    let a = c.args in
    rw (eq-eqb a.reply 0 c.if-reply-ne0.false, eq-eqb a.p a.prototypes (c.if-p-size.false ∙ c.size.ensures), c.size-2.ensures)
