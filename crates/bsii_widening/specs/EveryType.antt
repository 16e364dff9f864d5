-- A worked list of insertions with every listed type of a version: a definition and a value of each in the worked save's prototype and block (i), then a prototype
-- that has them all (ii) and a block of it (iii).
use Rattle.std.specs.Prelude.{ℕ, ◌+◌, ◌*◌, cond, List, [], ◌∷◌, ◌++◌, map, eqb}
use Rattle.bsii_format.specs.Ascii.{ascii}
use Rattle.bsii_format.specs.Types.{width, arity, Kind, numbers, string, encoded_string, id, Shape, one, many, Listed, type_table}
use Rattle.bsii_format.specs.Worked.{le, u32, u64}
use Rattle.bsii_widening.specs.Parts.{concat}
use Rattle.bsii_widening.specs.Written.{Written, field, prototype_at, block_at}

-- a type's definition, under the name `f` and a character for the type; for 0x37 with the list 5 `five`
unfoldable pub definition_bytes : Listed → List ℕ
definition_bytes t =
    u32 t.type_id ++ u32 2 ++ ascii "f" ++ le 1 (0x40 + t.type_id)
    ++ cond (eqb t.type_id 0x37) (u32 1 ++ u32 5 ++ u32 4 ++ ascii "five") []

-- numbers are 5, and then zeros
unfoldable pub element_bytes : Kind → List ℕ
element_bytes (numbers k) = le (width k * arity k) 5
element_bytes string = u32 2 ++ ascii "hi"
element_bytes encoded_string = u64 0x57
element_bytes id = le 1 1 ++ u64 0x57

-- a single value, or two elements
unfoldable pub shape_bytes : Shape → List ℕ
shape_bytes (one k) = element_bytes k
shape_bytes (many k) = u32 2 ++ element_bytes k ++ element_bytes k

unfoldable pub value_bytes : Listed → List ℕ
value_bytes t = shape_bytes t.shape

unfoldable pub every_field : ℕ → List Written
every_field version = map (λ t. field 7 0 (definition_bytes t) (value_bytes t ∷ [])) (type_table version)

unfoldable pub every_record : ℕ → List Written
every_record version =
    prototype_at 0 (u32 0 ++ le 1 1 ++ u32 9 ++ u32 1 ++ ascii "p" ++ concat (map definition_bytes (type_table version)) ++ u32 0)
    ∷ block_at 1 (u32 9 ++ le 1 0 ++ concat (map value_bytes (type_table version)))
    ∷ []
