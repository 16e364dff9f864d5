-- An accepted array has its count and then `count` elements: its text is the line of the count and their lines behind it. Without a count nothing
-- was accepted.
use Rattle.bsii_value.specs.Kinds.{kind_is}
use Rattle.bsii_lines.proofs.ArrayLaws.{array_short, array_lines}
use Rattle.bsii_lines.proofs.fields.write_array.Goals as goal

pub returns-in_default : goal.returns-in_default
returns-in_default c = let a = c.args in array_short a.s.now a.at (kind_is a.kind) a.d c.in_default.ensures

pub returns : goal.returns
returns c =
    let a = c.args in
    array_lines a.s.now a.at (kind_is a.kind) a.d c.in-Ok.ensures c.count_line-lines.ensures c.write_vector_data_value.ensures
