use lib.ListN.{length, replicate}
use mathlib.Core.Path.{◌≡◌, ap, ◌∙◌}
use borrow.Author.Rules.{rules}
use Rattle.bsii_output.proofs.text.to_siin.Goals as goal

pub returns : goal.returns
returns c =
    let a = c.args in
    let l : length c.write_text-reply.new.table ≡ length a.table.now = search rules in
    record { reply = c.write_text-reply.ensures; zeros = c.clear.ensures ∙ ap (λ n. replicate n 0) l }
