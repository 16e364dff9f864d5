use Rattle.std.proofs.Common.{◌≡◌, length, arith, rules}
use Rattle.bsii_window.proofs.Stores.{stored_then, stored_being}
use Rattle.bsii_float_text.proofs.TextLaws.{eight_parts}
use Rattle.bsii_float_text.proofs.store_placement.Goals as goal

pub returns : goal.returns
returns c =
    let v : length c.args.v.items ≡ 8 = search rules in
    let nan : length c.args.nan.items ≡ 8 = search rules in
    let sectors = c.sectors_of-sectors.ensures in
    let text = eight_parts c.args.v.items c.args.nan.items v nan c.bits_of.ensures sectors.0 sectors.1 c.sector_sum.ensures c.sector_sum-2.ensures c.quiet.ensures c.quiet-2.ensures in
    (stored_being text (stored_then (stored_then c.store_floats-first.ensures.0 c.store_byte-next.ensures) c.store_floats.ensures.0), omega arith)
