-- The five pieces are written one behind the other, so they are one write of all in a row (`then`), which is how `printed` spells a refusal.
use mathlib.Core.Path.{◌≡◌, ◌∙◌}
use Rattle.bsii_format.specs.Replies.{number_of}
use Rattle.bsii_format.specs.Calls.{printed}
use Rattle.bsii_window.proofs.Laws.{then}
use Rattle.sii_decode.proofs.printed.write_refusal.Goals as goal

pub returns : goal.returns
unfolding printed
returns c =
    let e : c.from-2.result ≡ number_of c.args.f.cause = c.from-2.ensures ∙ c.from.ensures in
    rw (← e) (then (then (then (then c.put_all-a.ensures c.write_decimal-b.ensures) c.put_all-c.ensures) c.write_decimal-d.ensures) c.put_all.ensures)
