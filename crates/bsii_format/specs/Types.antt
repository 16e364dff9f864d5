-- The table of types, as data: document 01, "Types (hexadecimal; an array is a u32 count, then elements)"; document 02, E3 and E12; FORMAT.md, "Types".
use Rattle.std.specs.Prelude.{ℕ, cond, List, [], ◌∷◌, eqb}
use Rattle.std.proofs.Math.Option.{Option, none, some}

-- values that are one or more numbers of one width; the names are those of the Rust's `DataValue`, and `float_vec7` is a placement of version 1
pub data Numeric : Type 0 where
  float float_vec2 float_vec3 float_vec4 float_vec7 float_vec8 int32 int32_vec3 uint32 uint16 int64 uint64 bool enum : Numeric

-- how many bytes each number has
unfoldable pub width : Numeric → ℕ
width float = 4
width float_vec2 = 4
width float_vec3 = 4
width float_vec4 = 4
width float_vec7 = 4
width float_vec8 = 4
width int32 = 4
width int32_vec3 = 4
width uint32 = 4
width uint16 = 2
width int64 = 8
width uint64 = 8
width bool = 1
width enum = 4

-- how many numbers there are
unfoldable pub arity : Numeric → ℕ
arity float = 1
arity float_vec2 = 2
arity float_vec3 = 3
arity float_vec4 = 4
arity float_vec7 = 7
arity float_vec8 = 8
arity int32 = 1
arity int32_vec3 = 3
arity uint32 = 1
arity uint16 = 1
arity int64 = 1
arity uint64 = 1
arity bool = 1
arity enum = 1

-- what one element is
pub data Kind : Type 0 where
  numbers : Numeric → Kind
  string encoded_string id : Kind

-- a single element, or an array of them
pub data Shape : Type 0 where
  one many : Kind → Shape

infix 70 ◌is◌
pub record Listed : Type 0 where
  pub type_id : ℕ
  pub shape : Shape

abbrev pub ◌is◌ : ℕ → Shape → Listed
t is x = record { type_id = t; shape = x }

-- "Version 1 differs in 0x19 and 0x1a only: a placement has seven f32"; in every other version it has eight
unfoldable pub placement_in : ℕ → Numeric
placement_in version = cond (eqb version 1) float_vec7 float_vec8

-- the types of a version, by number: 01's, and E3's "0x0a, an array of three f32, and 0x17, a single four f32"
unfoldable pub type_table : ℕ → List Listed
type_table version =
    0x01 is one string ∷
    0x02 is many string ∷
    0x03 is one encoded_string ∷
    0x04 is many encoded_string ∷
    0x05 is one (numbers float) ∷
    0x06 is many (numbers float) ∷
    0x07 is one (numbers float_vec2) ∷
    0x09 is one (numbers float_vec3) ∷
    0x0a is many (numbers float_vec3) ∷
    0x11 is one (numbers int32_vec3) ∷
    0x12 is many (numbers int32_vec3) ∷
    0x17 is one (numbers float_vec4) ∷
    0x18 is many (numbers float_vec4) ∷
    0x19 is one (numbers (placement_in version)) ∷
    0x1a is many (numbers (placement_in version)) ∷
    0x25 is one (numbers int32) ∷
    0x26 is many (numbers int32) ∷
    0x27 is one (numbers uint32) ∷
    0x28 is many (numbers uint32) ∷
    0x2b is one (numbers uint16) ∷
    0x2c is many (numbers uint16) ∷
    0x2f is one (numbers uint32) ∷
    0x31 is one (numbers int64) ∷
    0x32 is many (numbers int64) ∷
    0x33 is one (numbers uint64) ∷
    0x34 is many (numbers uint64) ∷
    0x35 is one (numbers bool) ∷
    0x36 is many (numbers bool) ∷
    0x37 is one (numbers enum) ∷
    0x39 is one id ∷
    0x3a is many id ∷
    0x3b is one id ∷
    0x3c is many id ∷
    0x3d is one id ∷ []

unfoldable pub shape_in : List Listed → ℕ → Option Shape
shape_in [] t = none
shape_in (r ∷ l) t = cond (eqb t r.type_id) (some r.shape) (shape_in l t)

-- "All other types are unlisted": none
unfoldable pub shape_of : ℕ → ℕ → Option Shape
shape_of version = shape_in (type_table version)
