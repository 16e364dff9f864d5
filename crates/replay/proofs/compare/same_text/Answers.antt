-- What `to_siin` answered is `text_call`'s answer, and `same_text` has the same cases: a refusal's number; a text against a refusal (`unlike`); or the bytes
-- against the text where the Rust refuses nothing (`alike`).
use Prim.Native.Nat.{ℕ}
use mathlib.Core.Path.{ap, ◌∙◌}
use lib.Dec.{eqb}
use Rattle.replay.specs.Agree.{same_text}
use Rattle.replay.proofs.Bytes.{unlike, alike}
use Rattle.replay.proofs.compare.same_text.Goals as goal

pub returns-in-Err : goal.returns-in-Err
returns-in-Err c =
    let a = c.args in
    let e = ap (same_text a.reply a.text.now) c.in-Err.ensures.reply in
    ap (λ (n : ℕ). eqb n a.reply) c.rust_number.ensures ∙ e

pub returns-then-reply-ne0 : goal.returns-then-reply-ne0
returns-then-reply-ne0 c =
    let a = c.args in
    let e = ap (same_text a.reply a.text.now) c.in-Ok.ensures.reply in
    unlike a.reply a.text.now (record { size = c.in-Ok.converted.length; steps = c.in-Ok.converted.steps }) c.to_siin.new.output c.if-reply-ne0.true ∙ e

pub returns-else-reply-ne0 : goal.returns-else-reply-ne0
returns-else-reply-ne0 c =
    let a = c.args in
    let e = ap (same_text a.reply a.text.now) c.in-Ok.ensures.reply in
    c.same_bytes.ensures ∙ alike a.reply a.text.now (record { size = c.in-Ok.converted.length; steps = c.in-Ok.converted.steps }) c.to_siin.new.output c.if-reply-ne0.false ∙ e
