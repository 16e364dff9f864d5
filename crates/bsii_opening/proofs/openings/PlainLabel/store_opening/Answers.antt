use native.Mathlib.Omega.{arith}
use Rattle.bsii_window.proofs.Stores.{stored_then}
use Rattle.bsii_opening.proofs.LineLaws.{opening_length}
use Rattle.bsii_opening.proofs.openings.PlainLabel.store_opening.Goals as goal

pub returns : goal.returns
returns c =
    let w = stored_then (stored_then c.store_text-start.ensures c.store_name-next.ensures) c.store_text.ensures in
    (w, omega (arith, w.next, opening_length c.args.name.now))
