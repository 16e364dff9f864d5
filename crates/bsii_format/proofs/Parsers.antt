-- Every reader of the layout is exact, from numbers up to the head of a record.
use Prim.Native.Nat.{ℕ, zero, suc}
use mathlib.Core.Option.{Option, none, some}
use mathlib.Core.List.{List, [], ◌∷◌}
use lib.Dec.{leb, eqb}
use Rattle.bsii_format.specs.Reader.{Reader, bytes, Consumed}
use Rattle.bsii_format.specs.Replies.{not_utf8, zero_digit, unlisted_type, bad_mark, invalid_header}
use Rattle.bsii_format.specs.Ascii.{ascii}
use Rattle.bsii_format.specs.Numbers.{little_endian, number}
use Rattle.bsii_format.specs.Utf8.{utf8}
use Rattle.bsii_format.specs.Strings.{str_parser, low63, spelled, encoded_str_parser, Id, nameless, named, id_parser}
use Rattle.bsii_format.specs.Types.{width, arity, Kind, numbers, string, encoded_string, id, Shape, one, many, shape_of}
use Rattle.bsii_format.specs.Values.{Element, nums, str, word, ident, Value, single, array, element_parser, shape_parser, value_parser}
use Rattle.bsii_format.specs.Prototypes.{EnumValue, ValuePrototype, enum_value_parser, enum_values_parser, value_prototype_parser}
use Rattle.bsii_format.specs.Blocks.{DataValue, data_value, data_value_parser}
use Rattle.bsii_format.specs.File.{Head, ending, defining, carrying, mark_parser, head_parser, header_parser}
use Rattle.bsii_format.proofs.Readers.{Exact, bind_exact, success_exact, fail_exact, map_exact, repeat_exact, cond_exact, verify_exact, consumed_exact, bytes_exact, tag_exact}

pub number_exact : (w : ℕ) → Exact ℕ (number w)
unfolding number
number_exact w = map_exact little_endian (bytes_exact w)

pub str_exact : Exact (List ℕ) str_parser
unfolding str_parser
str_exact = bind_exact _ (number_exact 4) (λ n. verify_exact utf8 not_utf8 (bytes_exact n))

pub encoded_str_exact : Exact ℕ encoded_str_parser
unfolding encoded_str_parser
encoded_str_exact = verify_exact spelled zero_digit (map_exact low63 (number_exact 8))

pub id_exact : Exact Id id_parser
unfolding id_parser
id_exact =
    bind_exact _ (number_exact 1)
    (λ n. cond_exact (eqb n 0xff) (map_exact nameless (number_exact 8)) (map_exact named (repeat_exact n encoded_str_exact)))

pub element_exact : (k : Kind) → Exact Element (element_parser k)
unfolding element_parser
element_exact (numbers k) = map_exact (nums k) (repeat_exact (arity k) (number_exact (width k)))
element_exact string = map_exact str str_exact
element_exact encoded_string = map_exact word encoded_str_exact
element_exact id = map_exact ident id_exact

pub shape_exact : (o : Option Shape) → Exact Value (shape_parser o)
unfolding shape_parser
shape_exact none = fail_exact Value unlisted_type
shape_exact (some (one k)) = map_exact single (consumed_exact (element_exact k))
shape_exact (some (many k)) = map_exact array (bind_exact _ (number_exact 4) (λ n. repeat_exact n (consumed_exact (element_exact k))))

pub value_exact : (version t : ℕ) → Exact Value (value_parser version t)
unfolding value_parser
value_exact version t = shape_exact (shape_of version t)

pub data_value_exact : (version t : ℕ) → Exact DataValue (data_value_parser version t)
unfolding data_value_parser
data_value_exact version t = map_exact (data_value t) (consumed_exact (value_exact version t))

pub enum_value_exact : Exact EnumValue enum_value_parser
unfolding enum_value_parser
enum_value_exact = bind_exact _ (number_exact 4) (λ n. bind_exact _ str_exact (λ s. success_exact _))

pub enum_values_exact : (t : ℕ) → Exact (List EnumValue) (enum_values_parser t)
unfolding enum_values_parser
enum_values_exact t = cond_exact (eqb t 0x37) (bind_exact _ (number_exact 4) (λ n. repeat_exact n enum_value_exact)) (success_exact [])

pub value_prototype_exact : Exact (Option ValuePrototype) value_prototype_parser
unfolding value_prototype_parser
value_prototype_exact =
    bind_exact _ (number_exact 4)
    (λ t. cond_exact (eqb t 0) (success_exact none) (bind_exact _ str_exact (λ n. bind_exact _ (enum_values_exact t) (λ l. success_exact _))))

pub mark_exact : (m : ℕ) → Exact Head (mark_parser m)
unfolding mark_parser
mark_exact zero = success_exact ending
mark_exact (suc m) = bind_exact _ (number_exact 4) (λ n. bind_exact _ str_exact (λ s. success_exact (defining n s)))

pub head_exact : Exact Head head_parser
unfolding head_parser
head_exact =
    bind_exact _ (number_exact 4)
    (λ n. cond_exact (eqb n 0) (bind_exact mark_parser (verify_exact (λ m. leb m 1) bad_mark (number_exact 1)) mark_exact) (success_exact (carrying n)))

pub header_exact : Exact ℕ header_parser
unfolding header_parser
header_exact =
    bind_exact _ (tag_exact (ascii "BSII") invalid_header)
    (λ u. number_exact 4)
