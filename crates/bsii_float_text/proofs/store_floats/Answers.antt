use Rattle.std.proofs.Common.{◌≡◌, length, arith, rules}
use Rattle.bsii_window.proofs.Stores.{stored_then, stored_being}
use Rattle.bsii_float_text.proofs.TextLaws.{front_more, row_front}
use Rattle.bsii_float_text.proofs.store_floats.Goals as goal

pub loop-i-preserved : goal.loop-i-preserved
loop-i-preserved g c =
    let text = front_more g.row.N c.loop-i.i _ c.args.v.items c.args.nan.items c.loop-i.invariant.0 c.store_mark-next.ensures.0 c.store_float-next.ensures.0 c.bits_of.ensures in
    (text, omega arith)

pub returns : goal.returns
returns g c =
    let e : c.loop-i.i ≡ g.row.N = omega arith in
    let v : length c.args.v.items ≡ g.row.N = search rules in
    let nan : length c.args.nan.items ≡ g.row.N = search rules in
    let count = c.requires.count in
    let front = rw e at c.loop-i.invariant.0 in
    (stored_being (row_front g.row.N c.args.v.items c.args.nan.items v nan count.0 count.1) (stored_then front c.store_byte.ensures), omega arith)
