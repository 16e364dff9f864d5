-- An input over the bound makes `program` a refusal (`longer`); else it is the text call's answer (`call_answers`): a text stands at the output's start
-- already, and a refusal is printed there.
use mathlib.Core.Path.{sym, ap, subst, ◌∙◌}
use Rattle.bsii_format.specs.Replies.{refuses}
use Rattle.bsii_format.specs.Calls.{printed}
use Rattle.bsii_string.specs.Answers.{fault_is}
use Rattle.bsii_string.specs.declared.answers.Refusal.{Refusal}
use Rattle.sii_decode.specs.Starts.{Starts}
use Rattle.sii_decode.proofs.Laws.{longer, call_answers}
use Rattle.sii_decode.proofs.printed.print_into.Goals as goal

pub returns-then-input-gt65536 : goal.returns-then-input-gt65536
returns-then-input-gt65536 c = subst (Starts _ _) (ap (λ (f : Refusal). printed (refuses (fault_is f))) c.refused.ensures ∙ sym (longer c.args.input.now c.if-input-gt65536.true)) c.print_refusal.ensures

pub returns-in-Ok : goal.returns-in-Ok
returns-in-Ok c = call_answers c.args.input.now c.args.output.now c.if-input-gt65536.false c.requires.0 c.requires.1 c.in-Ok.ensures.reply

pub returns-in-Err : goal.returns-in-Err
returns-in-Err c =
    let e = call_answers c.args.input.now c.args.output.now c.if-input-gt65536.false c.requires.0 c.requires.1 c.in-Err.ensures.reply in
    subst (Starts _ _) (sym e) c.print_refusal-in-Err.ensures
