use mathlib.Core.Path.{◌≡◌, ap, ◌∙◌}
use lib.ListN.{length, replicate}
use borrow.Author.Rules.{rules}
use Rattle.bsii_index.proofs.write.write_index.Goals as goal

pub returns : goal.returns
returns c =
    let w = c.write-reply in
    let l : length w.new.table ≡ length c.args.table.now = search rules in
    record { reply = w.ensures; zeros = c.clear.ensures ∙ ap (λ n. replicate n 0) l }
