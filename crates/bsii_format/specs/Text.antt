-- The text: document 01, "src/bsii_output.rs"; FORMAT.md, "The text".
use Rattle.std.specs.Prelude.{ℕ, zero, suc, ◌/◌, ◌%◌, Bool, true, cond, ◌&&◌, ◌||◌, List, [], ◌∷◌, ◌++◌, length, get_or, ltb, eqb}
use Rattle.std.proofs.Math.Option.{Option, none, some, map}
use Rattle.bsii_format.specs.Ascii.{ascii}
use Rattle.bsii_format.specs.Reader.{Consumed}
use Rattle.bsii_format.specs.Numbers.{signed}
use Rattle.bsii_format.specs.Utf8.{◌to◌, within}
use Rattle.bsii_format.specs.Strings.{characters, Id, nameless, named}
use Rattle.bsii_format.specs.Types.{Numeric, float, float_vec2, float_vec3, float_vec4, float_vec7, float_vec8, int32, int32_vec3, uint32, uint16, int64, uint64, bool, enum}
use Rattle.bsii_format.specs.Values.{Element, nums, str, word, ident, Value, single, array}
use Rattle.bsii_format.specs.Prototypes.{EnumValue, ValuePrototype}
use Rattle.bsii_format.specs.Digits.{decimal, hexadecimal, hex_padded, decimal_int}
use Rattle.bsii_format.specs.Floats.{float_text, vec2_text, vec3_text, vec4_text, placement_text, vec7_text}

-- ---- strings, words, ids

-- "All ASCII letters, digits, `_`: bare"
unfoldable pub is_bare : ℕ → Bool
is_bare x = within (0x30 to 0x39) x || within (0x41 to 0x5a) x || eqb x 0x5f || within (0x61 to 0x7a) x

unfoldable pub all_bare : List ℕ → Bool
all_bare [] = true
all_bare (x ∷ s) = is_bare x && all_bare s

-- "bytes 32 to 127 raw (also `"` and `\`), the others `\x` and two lower-case hexadecimal digits"
unfoldable pub escaped : List ℕ → List ℕ
escaped [] = []
escaped (x ∷ s) = cond (within (32 to 127) x) (x ∷ []) (ascii "\\x" ++ hex_padded 2 x) ++ escaped s

-- "String: empty is `""`. All ASCII letters, digits, `_`: bare. Else quoted"
unfoldable pub string_text : List ℕ → List ℕ
string_text [] = ascii "\"\""
string_text (x ∷ s) = cond (all_bare (x ∷ s)) (x ∷ s) (ascii "\"" ++ escaped (x ∷ s) ++ ascii "\"")

-- "Encoded word: bare, empty is `""`"
unfoldable pub or_empty : List ℕ → List ℕ
or_empty [] = ascii "\"\""
or_empty (x ∷ s) = x ∷ s

unfoldable pub encoded_string_text : ℕ → List ℕ
encoded_string_text n = or_empty (characters n)

-- "`.` before each 16-bit group from the first nonzero one, in lower-case hexadecimal, that one unpadded, later ones four digits"; n is
-- at most k + 1 groups. Zero gives `.0`
unfoldable pub groups : ℕ → ℕ → List ℕ
groups zero n = ascii "." ++ hexadecimal n
groups (suc k) n = cond (ltb n 0x1_0000) (ascii "." ++ hexadecimal n) (groups k (n / 0x1_0000) ++ ascii "." ++ hex_padded 4 (n % 0x1_0000))

unfoldable pub dotted : List ℕ → List ℕ
dotted [] = []
dotted (w ∷ l) = ascii "." ++ characters w ++ dotted l

-- "Named: words joined by `.`, an empty word as nothing; no words: `null`."
unfoldable pub id_text : Id → List ℕ
id_text (nameless n) = ascii "_nameless" ++ groups 3 n
id_text (named []) = ascii "null"
id_text (named (w ∷ l)) = characters w ++ dotted l

-- ---- values

-- "u16, u32, u64: decimal, largest value `nil`"
unfoldable pub or_nil : ℕ → ℕ → List ℕ
or_nil largest n = cond (eqb n largest) (ascii "nil") (decimal n)

unfoldable pub bool_text : ℕ → List ℕ
bool_text zero = ascii "false"
bool_text (suc n) = ascii "true"

abbrev pub int32_text : ℕ → List ℕ
int32_text n = decimal_int (signed 0x8000_0000 n)

-- "Within an enum list the last pair of a number wins."
unfoldable pub first_some : {A : Type 0} → Option A → Option A → Option A
first_some none b = b
first_some (some a) b = some a

unfoldable pub enum_string : ℕ → List EnumValue → Option (List ℕ)
enum_string n [] = none
enum_string n (p ∷ l) = first_some (enum_string n l) (cond (eqb n p.number) (some p.string) none)

-- one element; none is an enum value that is not in the list
unfoldable pub numeric_text : List EnumValue → Numeric → List ℕ → Option (List ℕ)
numeric_text enums float l = some (float_text (get_or l 0 0))
numeric_text enums float_vec2 l = some (vec2_text (float_text (get_or l 0 0)) (float_text (get_or l 1 0)))
numeric_text enums float_vec3 l = some (vec3_text (float_text (get_or l 0 0)) (float_text (get_or l 1 0)) (float_text (get_or l 2 0)))
numeric_text enums float_vec4 l = some (vec4_text (float_text (get_or l 0 0)) (float_text (get_or l 1 0)) (float_text (get_or l 2 0)) (float_text (get_or l 3 0)))
numeric_text enums float_vec7 l = some (vec7_text l)
numeric_text enums float_vec8 l = some (placement_text l)
numeric_text enums int32 l = some (int32_text (get_or l 0 0))
numeric_text enums int32_vec3 l = some (vec3_text (int32_text (get_or l 0 0)) (int32_text (get_or l 1 0)) (int32_text (get_or l 2 0)))
numeric_text enums uint32 l = some (or_nil 0xffff_ffff (get_or l 0 0))
numeric_text enums uint16 l = some (or_nil 0xffff (get_or l 0 0))
numeric_text enums int64 l = some (decimal_int (signed 0x8000_0000_0000_0000 (get_or l 0 0)))
numeric_text enums uint64 l = some (or_nil 0xffff_ffff_ffff_ffff (get_or l 0 0))
numeric_text enums bool l = some (bool_text (get_or l 0 0))
numeric_text enums enum l = map string_text (enum_string (get_or l 0 0) enums)

unfoldable pub element_text : List EnumValue → Element → Option (List ℕ)
element_text enums (nums k l) = numeric_text enums k l
element_text enums (str s) = some (string_text s)
element_text enums (word n) = some (encoded_string_text n)
element_text enums (ident i) = some (id_text i)

-- ---- fields

-- "A field: two spaces, `NAME: VALUE`"; "each line ended by byte 10"
unfoldable pub field_line : List ℕ → List ℕ → List ℕ
field_line name v = ascii "  " ++ name ++ ascii ": " ++ v ++ ascii "\n"

-- `NAME[i]`
unfoldable pub indexed : List ℕ → ℕ → List ℕ
indexed name i = name ++ ascii "[" ++ decimal i ++ ascii "]"

unfoldable pub append : Option (List ℕ) → Option (List ℕ) → Option (List ℕ)
append none b = none
append (some a) none = none
append (some a) (some b) = some (a ++ b)

-- the lines of an array's elements, the first one with the index i
unfoldable pub element_lines : List ℕ → List EnumValue → ℕ → List (Consumed Element) → Option (List ℕ)
element_lines name enums i [] = some []
element_lines name enums i (e ∷ l) = append (map (field_line (indexed name i)) (element_text enums e.value)) (element_lines name enums (suc i) l)

-- A field's lines under its definition d: "an array gives its count there, then a line with two spaces and `NAME[i]: VALUE` for each i
-- from 0". None is an enum value that is not in the list
unfoldable pub value_text : ValuePrototype → Value → Option (List ℕ)
value_text d (single e) = map (field_line d.name) (element_text d.enum_values e.value)
value_text d (array l) = append (some (field_line d.name (decimal (length l)))) (element_lines d.name d.enum_values 0 l)
