-- What each case of the element call's answer means: 01's value for each kind, or a refusal.
use Rattle.std.specs.Prelude.{ℕ, get_or, from_bits, Float, Ok, Err, Result as Outcome}
use Rattle.std.specs.Float.{binary32}
use Rattle.bsii_format.specs.Replies.{Reply, gives, refuses}
use Rattle.bsii_format.specs.Numbers.{signed}
use Rattle.bsii_format.specs.Calls.{Datum, d_string, d_encoded_string, d_float, d_float_vec2, d_float_vec3, d_float_vec4, d_float_vec7, d_float_vec8, d_int32, d_int32_vec3, d_uint32, d_uint16, d_int64, d_uint64, d_bool, d_enum, d_id}
use Rattle.bsii_string.specs.Answers.{fault_is}
use Rattle.bsii_string.specs.declared.answers.Refusal.{Refusal}
use Rattle.bsii_float.specs.declared.floats.Bits.{Bits}
use Rattle.bsii_float.specs.declared.floats.Floats.{Floats}
use Rattle.bsii_element.specs.declared.answers.Int3.{Int3}
use Rattle.bsii_element.specs.declared.answers.Element.{Element}
use Rattle.bsii_element.specs.declared.answers.Element.TheVariants.{String, EncodedString, Float as OneFloat, FloatVec2, FloatVec3, FloatVec4, FloatVec7, FloatVec8, Int32, Int32Vec3, UInt32, UInt16, Int64, UInt64, Bool, Enum, Id}

-- the i-th of some floats; past the last, which none of the cases asks for, 0.0
abbrev pub coordinate : {n : ℕ} → Floats n → ℕ → Float
coordinate v i = get_or v.items i (from_bits binary32 0)

abbrev pub datum_is : Element → Datum
datum_is (String offset size) = d_string (record { offset = offset; size = size })
datum_is (EncodedString n) = d_encoded_string n
datum_is (OneFloat x) = d_float x
datum_is (FloatVec2 v) = d_float_vec2 (coordinate v 0) (coordinate v 1)
datum_is (FloatVec3 v) = d_float_vec3 (coordinate v 0) (coordinate v 1) (coordinate v 2)
datum_is (FloatVec4 v) = d_float_vec4 (coordinate v 0) (coordinate v 1) (coordinate v 2) (coordinate v 3)
datum_is (FloatVec7 v) = d_float_vec7 (coordinate v 0) (coordinate v 1) (coordinate v 2) (coordinate v 3) (coordinate v 4) (coordinate v 5) (coordinate v 6)
datum_is (FloatVec8 v) = d_float_vec8 (coordinate v 0) (coordinate v 1) (coordinate v 2) (coordinate v 3) (coordinate v 4) (coordinate v 5) (coordinate v 6) (coordinate v 7)
datum_is (Int32 n) = d_int32 n
datum_is (Int32Vec3 v) = d_int32_vec3 v.a v.b v.c
datum_is (UInt32 n) = d_uint32 n
datum_is (UInt16 n) = d_uint16 n
datum_is (Int64 n) = d_int64 n
datum_is (UInt64 n) = d_uint64 n
datum_is (Bool b) = d_bool b
datum_is (Enum n) = d_enum n
datum_is (Id offset size) = d_id (record { offset = offset; size = size })

abbrev pub element_is : Outcome Element Refusal → Reply Datum
element_is (Ok e) = gives (datum_is e)
element_is (Err f) = refuses (fault_is f)

-- three i32 by their bits
abbrev pub int3_of : Bits 3 → Int3
int3_of v = record { a = signed 0x8000_0000 (get_or v.items 0 0); b = signed 0x8000_0000 (get_or v.items 1 0); c = signed 0x8000_0000 (get_or v.items 2 0) }
