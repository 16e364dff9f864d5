-- Texts stored one behind the other are their concatenation, and vec3_parts says that these pieces, put together, are the text of three.
use Rattle.std.proofs.Common.{◌≡◌, length, map, sym, ap, ◌∙◌, arith, rules}
use Rattle.bsii_format.specs.Text.{int32_text}
use Rattle.bsii_float.specs.Texts.{row_text}
use Rattle.bsii_float.proofs.Rows.{spelled}
use Rattle.bsii_window.proofs.Stores.{stored_then, stored_being}
use Rattle.bsii_float_text.proofs.TextLaws.{vec3_parts}
use Rattle.bsii_numeric.proofs.integers.store_int_vec3.Goals as goal

pub returns : goal.returns
returns c =
    let v = c.args.v.items in
    let size : length v ≡ 3 = search rules in
    let first = stored_then c.store_byte-open.ensures c.store_i32-first.ensures.0 in
    let third = stored_then (stored_then first c.store_further_int-second.ensures.0) c.store_further_int-third.ensures.0 in
    let text = vec3_parts _ _ _ ∙ ap (λ l. row_text (map int32_text l)) (sym (spelled 0 3 v size)) in
    (stored_being text (stored_then third c.store_byte.ensures), omega arith)
