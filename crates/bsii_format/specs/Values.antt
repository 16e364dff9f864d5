-- Values by version and type: document 01, "Types"; document 02, E12; FORMAT.md, "Values".
use Rattle.std.specs.Prelude.{ℕ, List}
use Rattle.std.proofs.Math.Option.{Option, none, some}
use Rattle.bsii_format.specs.Replies.{unlisted_type}
use Rattle.bsii_format.specs.Reader.{Reader, fail, repeat, Consumed, consumed, ◌>>=◌, ◌<$>◌}
use Rattle.bsii_format.specs.Numbers.{number, le_u32}
use Rattle.bsii_format.specs.Strings.{str_parser, encoded_str_parser, Id, id_parser}
use Rattle.bsii_format.specs.Types.{Numeric, width, arity, Kind, numbers, string, encoded_string, id, Shape, one, many, shape_of}

-- numbers as they stand, an f32 as its bits; a string's bytes; an encoded word's low 63 bits; an id
pub data Element : Type 0 where
  nums : Numeric → List ℕ → Element
  str : List ℕ → Element
  word : ℕ → Element
  ident : Id → Element

pub data Value : Type 0 where
  single : Consumed Element → Value
  array : List (Consumed Element) → Value

unfoldable pub element_parser : Kind → Reader Element
element_parser (numbers k) = nums k <$> repeat (arity k) (number (width k))
element_parser string = str <$> str_parser
element_parser encoded_string = word <$> encoded_str_parser
element_parser id = ident <$> id_parser

-- "an array is a u32 count, then elements"; an unlisted type "is refused before any byte of the value", 7 at "value's start"
unfoldable pub shape_parser : Option Shape → Reader Value
shape_parser none = fail unlisted_type
shape_parser (some (one k)) = single <$> consumed (element_parser k)
shape_parser (some (many k)) = array <$> (le_u32 >>= (λ n. repeat n (consumed (element_parser k))))

-- "The version therefore travels with the reader's position through every value call"
unfoldable pub value_parser : ℕ → ℕ → Reader Value
value_parser version t = shape_parser (shape_of version t)
