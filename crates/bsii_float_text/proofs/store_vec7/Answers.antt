use Rattle.std.proofs.Common.{◌≡◌, length, arith, rules}
use Rattle.bsii_window.proofs.Stores.{stored_then, stored_being}
use Rattle.bsii_float_text.specs.Floats.{vec7_with}
use Rattle.bsii_float_text.proofs.TextLaws.{seven_parts}
use Rattle.bsii_float_text.proofs.store_vec7.Goals as goal

pub returns : goal.returns
unfolding vec7_with
returns c =
    let v : length c.args.v.items ≡ 7 = search rules in
    let nan : length c.args.nan.items ≡ 7 = search rules in
    let text = stored_then (stored_then c.store_floats-first.ensures.0 c.store_byte-next.ensures) c.store_floats.ensures.0 in
    (stored_being (seven_parts c.args.v.items c.args.nan.items v nan) text, omega arith)
