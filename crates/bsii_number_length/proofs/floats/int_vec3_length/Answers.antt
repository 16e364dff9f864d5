use Rattle.std.proofs.Common.{◌≡◌, length, map, sym, ap, ◌∙◌, arith, rules}
use Rattle.bsii_format.specs.Text.{int32_text}
use Rattle.bsii_float.specs.Texts.{row_text}
use Rattle.bsii_float.proofs.Rows.{spelled}
use Rattle.bsii_length.proofs.Elements.{vec3_length}
use Rattle.bsii_number_length.proofs.floats.int_vec3_length.Goals as goal

pub returns : goal.returns
returns c =
    let v = c.args.v.items in
    let size : length v ≡ 3 = search rules in
    (rw vec3_length (omega arith) ∙ ap (λ l. length (row_text (map int32_text l))) (sym (spelled 0 3 v size)), omega arith)
