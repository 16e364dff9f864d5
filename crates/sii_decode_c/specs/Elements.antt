-- The C struct of an element: its kind, and a place, a number or words; or a refusal's number, offset and lacking bytes and nothing else.
use Rattle.std.specs.Prelude.{ℕ, cond, ℤ, Float}
use Rattle.bsii_format.specs.Replies.{number_of, Fault, Reply, gives, refuses}
use Rattle.bsii_format.specs.Calls.{Datum, d_string, d_encoded_string, d_float, d_float_vec2, d_float_vec3, d_float_vec4, d_float_vec7, d_float_vec8, d_int32, d_int32_vec3, d_uint32, d_uint16, d_int64, d_uint64, d_bool, d_enum, d_id}
use Rattle.bsii_float.specs.Bits.{bits_of}
use Rattle.bsii_element.specs.Twos.{twos}
use Rattle.sii_decode_c.specs.declared.elements.SiiElement.{SiiElement}

abbrev pub twos32 : ℤ → ℕ
twos32 = twos 0x1_0000_0000

abbrev pub twos64 : ℤ → ℕ
twos64 = twos 0x1_0000_0000_0000_0000

-- a float's bits, of every NaN the same ones: the definitions have one NaN
abbrev pub word : Float → ℕ
word x = bits_of x 0x7fc0_0000

abbrev pub place_out : ℕ → ℕ → ℕ → SiiElement
place_out k at size = record { number = 0; offset = 0; lacking = 0; kind = k; place_offset = at; place_len = size; value = 0; a = 0; b = 0; c = 0; d = 0; e = 0; f = 0; g = 0; h = 0 }

abbrev pub value_out : ℕ → ℕ → SiiElement
value_out k n = record { number = 0; offset = 0; lacking = 0; kind = k; place_offset = 0; place_len = 0; value = n; a = 0; b = 0; c = 0; d = 0; e = 0; f = 0; g = 0; h = 0 }

abbrev pub words_out : ℕ → ℕ → ℕ → ℕ → ℕ → ℕ → ℕ → ℕ → ℕ → SiiElement
words_out k a b c d e f g h = record { number = 0; offset = 0; lacking = 0; kind = k; place_offset = 0; place_len = 0; value = 0; a = a; b = b; c = c; d = d; e = e; f = f; g = g; h = h }

abbrev pub refused_out : Fault → SiiElement
refused_out f = record { number = number_of f.cause; offset = f.offset; lacking = f.lacking; kind = 0; place_offset = 0; place_len = 0; value = 0; a = 0; b = 0; c = 0; d = 0; e = 0; f = 0; g = 0; h = 0 }

abbrev pub datum_out : Datum → SiiElement
datum_out (d_string p) = place_out 1 p.offset p.size
datum_out (d_encoded_string n) = value_out 2 n
datum_out (d_float a) = words_out 3 (word a) 0 0 0 0 0 0 0
datum_out (d_float_vec2 a b) = words_out 4 (word a) (word b) 0 0 0 0 0 0
datum_out (d_float_vec3 a b c) = words_out 5 (word a) (word b) (word c) 0 0 0 0 0
datum_out (d_float_vec4 a b c d) = words_out 7 (word a) (word b) (word c) (word d) 0 0 0 0
datum_out (d_float_vec7 a b c d e f g) = words_out 17 (word a) (word b) (word c) (word d) (word e) (word f) (word g) 0
datum_out (d_float_vec8 a b c d e f g h) = words_out 8 (word a) (word b) (word c) (word d) (word e) (word f) (word g) (word h)
datum_out (d_int32 n) = value_out 9 (twos64 n)
datum_out (d_int32_vec3 a b c) = words_out 6 (twos32 a) (twos32 b) (twos32 c) 0 0 0 0 0
datum_out (d_uint32 n) = value_out 10 n
datum_out (d_uint16 n) = value_out 11 n
datum_out (d_int64 n) = value_out 12 (twos64 n)
datum_out (d_uint64 n) = value_out 13 n
datum_out (d_bool b) = value_out 14 (cond b 1 0)
datum_out (d_enum n) = value_out 15 n
datum_out (d_id p) = place_out 16 p.offset p.size

abbrev pub element_out : Reply Datum → SiiElement
element_out (gives d) = datum_out d
element_out (refuses f) = refused_out f
