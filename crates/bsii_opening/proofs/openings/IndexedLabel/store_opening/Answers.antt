-- Five stores, each from where the one before it ended, are one of the pieces in a row (`stored_then`), and they are the text (`index_text`).
use mathlib.Core.Path.{sym}
use native.Mathlib.Omega.{arith}
use Rattle.bsii_window.proofs.Stores.{stored_then, stored_being}
use Rattle.bsii_opening.proofs.LineLaws.{index_text}
use Rattle.bsii_opening.proofs.openings.IndexedLabel.store_opening.Goals as goal

pub returns : goal.returns
returns c =
    let a = c.args in
    let name = stored_then c.store_text-start.ensures c.store_name-next.ensures in
    let bracket = c.store_byte-open.ensures in
    let close = c.store_decimal-close.ensures in
    let end = c.store_text.ensures in
    (rw (sym c.from.ensures) (stored_being (index_text a.name.now c.from.result) (stored_then (stored_then (stored_then name bracket) close.0) end)), omega (arith, name.next, bracket.next, close.1, end.next))
