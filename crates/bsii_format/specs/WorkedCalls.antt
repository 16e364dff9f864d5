-- What the calls answer for small files, found and refused: FORMAT.md, "A worked file", "A prototype id defined again" and "Calls". A case is a
-- line, its answer read off documents 01 and 02; proofs/WorkedCalls.antt computes them.
use Rattle.std.specs.Prelude.{ℕ, Bool, true, false, List, [], ◌∷◌, ◌++◌, length, take, drop, set, replicate, pos, negsuc, Float}
use Rattle.std.specs.Float.{nan, fin}
use Rattle.bsii_format.specs.declared.Cause.{Cause}
use Rattle.bsii_format.specs.Ascii.{ascii}
use Rattle.bsii_format.specs.Replies.{Reply, gives, refuses, short, refusal, invalid_header, not_utf8, zero_digit, undefined_prototype, unlisted_type, field_count, enum_value, table_full, output_short, absent, bad_mark}
use Rattle.bsii_format.specs.Blocks.{DataBlock}
use Rattle.bsii_format.specs.File.{Record, parse}
use Rattle.bsii_format.specs.Text.{value_text}
use Rattle.bsii_format.specs.BlockText.{file_text}
use Rattle.bsii_format.specs.Calls.{of_file, Place, Reading, reading_call, PrototypeAnswer, prototype_call, BlockAnswer, block_call, named_block_call, FieldAnswer, field_call, part_of, Datum, d_string, d_encoded_string, d_float, d_float_vec2, d_float_vec3, d_float_vec4, d_float_vec7, d_float_vec8, d_int32, d_int32_vec3, d_uint32, d_uint16, d_int64, d_uint64, d_bool, d_enum, d_id, element_call, WriteAnswer, TextAnswer, text_call}
use Rattle.bsii_format.specs.Worked.{le, u32, u64, worked_file, worked_text, Fact, ◌says◌}

-- ---- files

abbrev pub string : List ℕ → List ℕ
string s = u32 (length s) ++ s

abbrev pub definition : ℕ → List ℕ → List ℕ
definition t name = u32 t ++ string name

abbrev pub prototype_record : ℕ → List ℕ → List ℕ → List ℕ
prototype_record n name definitions = u32 0 ++ le 1 1 ++ u32 n ++ string name ++ definitions ++ u32 0

abbrev pub file_of : ℕ → List ℕ → List ℕ
file_of version records = ascii "BSII" ++ u32 version ++ records ++ u32 0 ++ le 1 0

abbrev pub file_with : List ℕ → List ℕ
file_with = file_of 2

-- the worked file with another byte at one offset
abbrev pub worked_with : ℕ → ℕ → List ℕ
worked_with at b = set worked_file at b

-- 76 bytes: the block at 35 was read as a `p` with a u32 `f`, and the last definition of its id, at 44, is a `q` with a field `g` of type 06
unfoldable pub redefined_file : List ℕ
redefined_file =
    file_with (prototype_record 1 (ascii "p") (definition 0x27 (ascii "f")) ++ u32 1 ++ le 1 0 ++ u32 9 ++ prototype_record 1 (ascii "q") (definition 0x06 (ascii "g")))

-- 104 bytes: the block at 44 has a u32 at 49 and a bool at 53; the last definition of its id, at 54, has an i64 for the u32, so that `g` would stand
-- elsewhere, and one field more
unfoldable pub recounted_file : List ℕ
recounted_file =
    file_with (
    prototype_record 1 (ascii "p") (definition 0x27 (ascii "f") ++ definition 0x35 (ascii "g")) ++ u32 1 ++ le 1 0 ++ u32 9 ++ le 1 1
    ++ prototype_record 1 (ascii "p") (definition 0x31 (ascii "f") ++ definition 0x35 (ascii "g") ++ definition 0x01 (ascii "h"))
    )

-- 127 bytes and one behind the end record: at 8 prototype 0, `z`; at 26 prototype 1, `p` with two fields `x`, and at 62 a nameless block of it;
-- at 83 prototype 2, `p` too, and at 101 a block of it with two words, the second one empty
unfoldable pub twin_file : List ℕ
twin_file =
    file_with (
    prototype_record 0 (ascii "z") [] ++ prototype_record 1 (ascii "p") (definition 0x01 (ascii "x") ++ definition 0x2b (ascii "x"))
    ++ u32 1 ++ le 1 0xff ++ u64 5 ++ string (ascii "hi") ++ le 2 7 ++ prototype_record 2 (ascii "p") [] ++ u32 2 ++ le 1 2 ++ u64 0x57 ++ u64 0
    )
    ++ le 1 0xff

-- 76 bytes: the enum list has the number 5 twice, and the block at 62 has the value 5 at 67
unfoldable pub enum_file : List ℕ
enum_file =
    file_with (
    prototype_record 1 (ascii "p") (definition 0x37 (ascii "e") ++ u32 2 ++ u32 5 ++ string (ascii "low") ++ u32 5 ++ string (ascii "high"))
    ++ u32 1 ++ le 1 0 ++ u32 5
    )

-- the worked file with its prototype again, without fields, in front of the end record
unfoldable pub shortened_file : List ℕ
shortened_file = take 77 worked_file ++ prototype_record 7 (ascii "trip") [] ++ drop 77 worked_file

-- the worked file's `km` as an enum with an empty list, which moves its value to 65
unfoldable pub unlisted_enum_file : List ℕ
unlisted_enum_file = take 35 (worked_with 25 0x37) ++ u32 0 ++ drop 35 worked_file

-- 62 bytes: prototype 3, `t` with a u16 `n`; its blocks `null` at 35 with 5, and `x` at 42 with 7
unfoldable pub small_file : List ℕ
small_file =
    file_with (prototype_record 3 (ascii "t") (definition 0x2b (ascii "n")) ++ u32 3 ++ le 1 0 ++ le 2 5 ++ u32 3 ++ le 1 1 ++ u64 0x22 ++ le 2 7)

-- one triple in an array, and one quadruple: the bits of 0.5, 1, -2 and of 1, 0, 0, -0
unfoldable pub triples_part : List ℕ
triples_part = u32 1 ++ u32 0x3f00_0000 ++ u32 0x3f80_0000 ++ u32 0xc000_0000

unfoldable pub quadruple_part : List ℕ
quadruple_part = u32 0x3f80_0000 ++ u32 0 ++ u32 0 ++ u32 0x8000_0000

-- 86 bytes: prototype 3, `t` with an array of three f32 `v` and a single four f32 `r`; its block `null`, with their values at 49 and 65
unfoldable pub vectors_file : List ℕ
vectors_file =
    file_with (
    prototype_record 3 (ascii "t") (definition 0x0a (ascii "v") ++ definition 0x17 (ascii "r")) ++ u32 3 ++ le 1 0 ++ triples_part ++ quadruple_part
    )

unfoldable pub vectors_text : List ℕ
vectors_text = ascii "SiiNunit\n{\nt : null {\n  v: 1\n  v[0]: (&3f000000, 1, -2)\n  r: (1; 0, 0, -0)\n}\n}\n"

-- a placement of version 1: the bits of 1, -0, -0, a NaN, 0, 1.5, -2
unfoldable pub seven_part : List ℕ
seven_part =
    u32 0x3f80_0000 ++ u32 0x8000_0000 ++ u32 0x8000_0000 ++ u32 0x7f80_0002 ++ u32 0 ++ u32 0x3fc0_0000 ++ u32 0xc000_0000

-- 73 bytes: prototype 2, `j` with a placement `w`; its block `null` at 35, with seven f32 at 40. With eight the last one is the end record's u32 at 68
unfoldable pub seven_file : ℕ → List ℕ
seven_file version = file_of version (prototype_record 2 (ascii "j") (definition 0x19 (ascii "w")) ++ u32 2 ++ le 1 0 ++ seven_part)

-- minus zeros stay, and the NaN keeps its bits
unfoldable pub seven_text : List ℕ
seven_text = ascii "SiiNunit\n{\nj : null {\n  w: (1, -0, -0) (&7f800002; 0, &3fc00000, -2)\n}\n}\n"

-- an array of two, the second one with seven unlike numbers: the bits of -0, 1.5, a NaN, -2, 1, 0.5, 0
unfoldable pub sevens_part : List ℕ
sevens_part =
    u32 2 ++ seven_part
    ++ u32 0x8000_0000 ++ u32 0x3fc0_0000 ++ u32 0x7f80_0001 ++ u32 0xc000_0000 ++ u32 0x3f80_0000 ++ u32 0x3f00_0000 ++ u32 0

-- 115 bytes: a block of prototype 2 at 44, with the array at 49 and a bool `b` behind it at 109
unfoldable pub sevens_file : List ℕ
sevens_file =
    file_of 1 (prototype_record 2 (ascii "j") (definition 0x1a (ascii "w") ++ definition 0x35 (ascii "b")) ++ u32 2 ++ le 1 0 ++ sevens_part ++ le 1 1)

unfoldable pub sevens_text : List ℕ
sevens_text =
    ascii "SiiNunit\n{\nj : null {\n  w: 2\n  w[0]: (1, -0, -0) (&7f800002; 0, &3fc00000, -2)\n"
    ++ ascii "  w[1]: (-0, &3fc00000, &7f800001) (-2; 1, &3f000000, 0)\n  b: true\n}\n}\n"

-- prototype 1 with the definitions `first`; a block of it with the u32 5; prototype 1 again, with the definitions `last`
abbrev pub again_file : List ℕ → List ℕ → List ℕ
again_file first last = file_with (prototype_record 1 (ascii "p") first ++ u32 1 ++ le 1 0 ++ u32 5 ++ prototype_record 1 (ascii "p") last)

-- a field `e`, as a u32 and as an enum with the list 5 `five`; behind the latter the block of `again_file` is at 51 and its value at 56
abbrev pub plain_field : List ℕ
plain_field = definition 0x27 (ascii "e")

abbrev pub five_field : List ℕ
five_field = definition 0x37 (ascii "e") ++ u32 1 ++ u32 5 ++ string (ascii "five")

-- the save of FORMAT.md on why no prototype id may be defined twice: 85 bytes, and `more` behind the definition of `b`, `value` behind each value
abbrev pub twice_file : List ℕ → List ℕ → List ℕ
twice_file more value =
    file_with (
    prototype_record 1 (ascii "p") (definition 0x27 (ascii "a")) ++ u32 1 ++ le 1 0 ++ u32 1 ++ value
    ++ prototype_record 1 (ascii "p") (definition 0x27 (ascii "b") ++ more) ++ u32 1 ++ le 1 0 ++ u32 2 ++ value
    )

-- 3 at the offset `at`, lacking k bytes
abbrev pub lacks : {A : Type 0} → ℕ → ℕ → Reply A
lacks at k = refuses (short at k)

-- ---- look-ups; the first argument of a call is the number of table words

abbrev pub place : ℕ → ℕ → Place
place at n = record { offset = at; size = n }

abbrev pub reads : ℕ → ℕ → ℕ → Reply Reading
reads prototypes blocks next = gives (record { prototypes = prototypes; blocks = blocks; next = next })

unfoldable pub readings : List (Fact (Reply Reading))
readings =
    reading_call 3 worked_file says reads 1 1 82 ∷
    reading_call 3 redefined_file says reads 1 1 76 ∷
    reading_call 3 vectors_file says reads 1 1 86 ∷
    reading_call 3 (seven_file 1) says reads 1 1 73 ∷
    reading_call 9 twin_file says reads 3 2 127 ∷
    reading_call 8 twin_file says refusal table_full 83 ∷
    reading_call 0 (file_with []) says reads 0 0 13 ∷
    reading_call 3 (worked_with 12 2) says refusal bad_mark 12 ∷
    reading_call 2 (worked_with 43 0xff) says refusal not_utf8 43 ∷
    reading_call 2 (worked_with 48 8) says refusal table_full 8 ∷
    reading_call 3 (twice_file [] []) says reads 1 2 85 ∷
    reading_call 3 (twice_file (definition 0x27 (ascii "c")) (u32 3)) says refusal undefined_prototype 44 ∷ []

-- Files that were cut, in the order of the cuts: a part of `BSII`, `BSII` alone, in the version, in a record number, in front of a mark, in a string, in
-- the file above in front of a definition's type, in its first value and in front of the end record's mark. Then the whole of it, and a mark that is none,
-- which is not a cut; a cut in the second number of a triple in an array, and one in the first of a quadruple, which has no count in front. A version of 1
-- alone; a placement of seven that is cut in its last number; and one that every other version reads as eight, so that the end record's mark is read as a number
unfoldable pub cut_readings : List (Fact (Reply Reading))
cut_readings =
    reading_call 3 (take 3 small_file) says refusal invalid_header 0 ∷
    reading_call 3 (take 4 small_file) says lacks 4 4 ∷
    reading_call 3 (take 5 small_file) says lacks 4 3 ∷
    reading_call 3 (take 10 small_file) says lacks 8 2 ∷
    reading_call 3 (take 12 small_file) says lacks 12 1 ∷
    reading_call 3 (ascii "BSII" ++ u32 2 ++ u32 0 ++ le 1 1 ++ u32 3 ++ u32 5 ++ ascii "ab") says lacks 21 3 ∷
    reading_call 3 (take 22 small_file) says lacks 22 4 ∷
    reading_call 3 (take 41 small_file) says lacks 40 1 ∷
    reading_call 3 (take 61 small_file) says lacks 61 1 ∷
    reading_call 3 small_file says reads 1 2 62 ∷
    reading_call 3 (ascii "BSII" ++ u32 2 ++ u32 0 ++ le 1 3) says refusal bad_mark 12 ∷
    reading_call 3 (take 60 vectors_file) says lacks 57 1 ∷
    reading_call 3 (take 66 vectors_file) says lacks 65 3 ∷
    reading_call 3 (take 8 (seven_file 1)) says lacks 8 4 ∷
    reading_call 3 (take 67 (seven_file 1)) says lacks 64 1 ∷
    reading_call 3 (seven_file 0) says lacks 72 3 ∷
    reading_call 3 (seven_file 2) says lacks 72 3 ∷
    reading_call 3 (seven_file 3) says lacks 72 3 ∷
    reading_call 3 (seven_file 257) says lacks 72 3 ∷ []

abbrev pub defines : Place → ℕ → Reply PrototypeAnswer
defines name fields = gives (record { name = name; fields = fields })

unfoldable pub prototypes : List (Fact (Reply PrototypeAnswer))
prototypes =
    prototype_call 3 worked_file 7 says defines (place 21 4) 2 ∷
    prototype_call 3 redefined_file 1 says defines (place 57 1) 1 ∷
    prototype_call 9 twin_file 0 says defines (place 21 1) 0 ∷
    prototype_call 3 worked_file 8 says refusal absent 0 ∷
    prototype_call 3 (worked_with 48 8) 8 says refusal undefined_prototype 48 ∷ []

abbrev pub stands : ℕ → Place → Reply BlockAnswer
stands n id = gives (record { prototype_id = n; id = id })

unfoldable pub blocks : List (Fact (Reply BlockAnswer))
blocks =
    block_call 3 worked_file 0 says stands 7 (place 52 9) ∷
    block_call 3 redefined_file 0 says stands 1 (place 39 1) ∷
    block_call 9 twin_file 0 says stands 1 (place 66 9) ∷
    block_call 9 twin_file 1 says stands 2 (place 105 17) ∷
    block_call 3 worked_file 1 says refusal absent 0 ∷ []

unfoldable pub named_blocks : List (Fact (Reply ℕ))
named_blocks =
    named_block_call 3 worked_file (ascii "trip") 0 says gives 0 ∷
    named_block_call 3 worked_file (ascii "trip") 1 says refusal absent 0 ∷
    named_block_call 3 redefined_file (ascii "q") 0 says gives 0 ∷
    named_block_call 3 redefined_file (ascii "p") 0 says refusal absent 0 ∷
    named_block_call 9 twin_file (ascii "p") 1 says gives 1 ∷
    named_block_call 9 twin_file (ascii "z") 0 says refusal absent 0 ∷ []

abbrev pub carries : ℕ → ℕ → List ℕ → Reply FieldAnswer
carries t at l = gives (record { type_id = t; part = place at (length l); bytes = l })

unfoldable pub worked_part : List ℕ
worked_part = u32 2 ++ u32 0x3fc0_0000 ++ u32 0xc000_0000

unfoldable pub fields : List (Fact (Reply FieldAnswer))
fields =
    field_call 3 worked_file 0 (ascii "km") says carries 0x27 61 (u32 300) ∷
    field_call 3 worked_file 0 (ascii "w") says carries 0x06 65 worked_part ∷
    field_call 3 worked_file 0 (ascii "x") says refusal absent 0 ∷
    field_call 3 worked_file 1 (ascii "km") says refusal absent 0 ∷
    field_call 3 redefined_file 0 (ascii "g") says carries 0x27 40 (u32 9) ∷
    field_call 3 redefined_file 0 (ascii "f") says refusal absent 0 ∷
    field_call 3 recounted_file 0 (ascii "f") says carries 0x27 49 (u32 9) ∷
    field_call 3 recounted_file 0 (ascii "g") says carries 0x35 53 (le 1 1) ∷
    field_call 3 recounted_file 0 (ascii "h") says refusal absent 0 ∷
    field_call 3 (again_file plain_field (plain_field ++ definition 0x35 (ascii "x") ++ definition 0x27 (ascii "x"))) 0 (ascii "x") says refusal absent 0 ∷
    field_call 9 twin_file 0 (ascii "x") says carries 0x01 75 (string (ascii "hi")) ∷
    field_call 9 twin_file 1 (ascii "x") says refusal absent 0 ∷
    field_call 3 enum_file 0 (ascii "e") says carries 0x37 67 (u32 5) ∷
    field_call 3 vectors_file 0 (ascii "v") says carries 0x0a 49 triples_part ∷
    field_call 3 vectors_file 0 (ascii "r") says carries 0x17 65 quadruple_part ∷
    field_call 3 (seven_file 1) 0 (ascii "w") says carries 0x19 40 seven_part ∷
    field_call 3 sevens_file 0 (ascii "w") says carries 0x1a 49 sevens_part ∷
    field_call 3 sevens_file 0 (ascii "b") says carries 0x35 109 (le 1 1) ∷
    field_call 3 (worked_with 25 0x08) 0 (ascii "w") says refusal unlisted_type 61 ∷
    field_call 3 (take 70 worked_file) 0 (ascii "km") says lacks 69 3 ∷ []

unfoldable pub parts : List (Fact (List ℕ))
parts =
    part_of (field_call 3 worked_file 0 (ascii "w")) says worked_part ∷
    part_of (field_call 3 worked_file 0 (ascii "x")) says [] ∷ []

-- ---- elements

-- floats as numbers: negative for `true`, a whole number times a power of two
abbrev pub zero : Float
zero = fin false 0 (pos 0)

abbrev pub half : Float
half = fin false 1 (negsuc 0)

abbrev pub one : Float
one = fin false 1 (pos 0)

abbrev pub one_and_half : Float
one_and_half = fin false 3 (negsuc 0)

abbrev pub minus_two : Float
minus_two = fin true 1 (pos 1)

abbrev pub minus_zero : Float
minus_zero = fin true 0 (pos 0)

-- the bits of 1, 1.5, -2 and -0
abbrev pub four_bits : List ℕ
four_bits = u32 0x3f80_0000 ++ u32 0x3fc0_0000 ++ u32 0xc000_0000 ++ u32 0x8000_0000

-- each kind once at least, single or in an array, of version 2, and placements of version 1; then what is refused, also behind the element that was asked for
unfoldable pub elements : List (Fact (Reply Datum))
elements =
    element_call 2 0x02 (u32 2 ++ string (ascii "a") ++ string (ascii "hi")) 1 says gives (d_string (place 13 2)) ∷
    element_call 2 0x03 (u64 0x8000_0000_0000_0057) 0 says gives (d_encoded_string 0x57) ∷
    element_call 2 0x06 worked_part 1 says gives (d_float minus_two) ∷
    element_call 2 0x05 (u32 0x7f80_0001) 0 says gives (d_float nan) ∷
    element_call 2 0x07 four_bits 0 says gives (d_float_vec2 one one_and_half) ∷
    element_call 2 0x09 four_bits 0 says gives (d_float_vec3 one one_and_half minus_two) ∷
    element_call 2 0x0a triples_part 0 says gives (d_float_vec3 half one minus_two) ∷
    element_call 2 0x17 quadruple_part 0 says gives (d_float_vec4 one zero zero minus_zero) ∷
    element_call 2 0x18 (u32 1 ++ four_bits) 0 says gives (d_float_vec4 one one_and_half minus_two minus_zero) ∷
    element_call 2 0x19 (four_bits ++ four_bits) 0 says gives (d_float_vec8 one one_and_half minus_two minus_zero one one_and_half minus_two minus_zero) ∷
    element_call 1 0x19 seven_part 0 says gives (d_float_vec7 one minus_zero minus_zero nan zero one_and_half minus_two) ∷
    element_call 1 0x1a sevens_part 1 says gives (d_float_vec7 minus_zero one_and_half nan minus_two one half zero) ∷
    element_call 1 0x18 (u32 1 ++ four_bits) 0 says gives (d_float_vec4 one one_and_half minus_two minus_zero) ∷
    element_call 2 0x25 (u32 0xffff_fffe) 0 says gives (d_int32 (negsuc 1)) ∷
    element_call 2 0x11 (u32 1 ++ u32 0xffff_ffff ++ u32 0x8000_0000) 0 says gives (d_int32_vec3 (pos 1) (negsuc 0) (negsuc 0x7fff_ffff)) ∷
    element_call 2 0x28 (u32 2 ++ u32 300 ++ u32 0xffff_ffff) 1 says gives (d_uint32 0xffff_ffff) ∷
    element_call 2 0x2f (u32 300) 0 says gives (d_uint32 300) ∷
    element_call 2 0x2b (le 2 0xffff) 0 says gives (d_uint16 0xffff) ∷
    element_call 2 0x31 (u64 0x8000_0000_0000_0000) 0 says gives (d_int64 (negsuc 0x7fff_ffff_ffff_ffff)) ∷
    element_call 2 0x33 (u64 0xffff_ffff_ffff_ffff) 0 says gives (d_uint64 0xffff_ffff_ffff_ffff) ∷
    element_call 2 0x36 (u32 2 ++ le 1 0 ++ le 1 2) 0 says gives (d_bool false) ∷
    element_call 2 0x36 (u32 2 ++ le 1 0 ++ le 1 2) 1 says gives (d_bool true) ∷
    element_call 2 0x37 (u32 5) 0 says gives (d_enum 5) ∷
    element_call 2 0x3a (u32 2 ++ le 1 1 ++ u64 0x57 ++ le 1 0) 1 says gives (d_id (place 13 1)) ∷
    element_call 2 0x3d (le 1 0xff ++ u64 38) 0 says gives (d_id (place 0 9)) ∷
    element_call 2 0x08 [] 0 says refusal unlisted_type 0 ∷
    element_call 2 0x0b triples_part 0 says refusal unlisted_type 0 ∷
    element_call 2 0x16 quadruple_part 0 says refusal unlisted_type 0 ∷
    element_call 2 0x30 (u32 1 ++ u32 5) 0 says refusal unlisted_type 0 ∷
    element_call 2 0x38 (u32 1 ++ u32 5) 0 says refusal unlisted_type 0 ∷
    element_call 2 0x3e (u32 1 ++ le 1 0) 0 says refusal unlisted_type 0 ∷
    element_call 2 0x01 (u32 3 ++ le 1 0xc0 ++ le 1 0x80) 0 says lacks 4 1 ∷
    element_call 2 0x01 (u32 2 ++ le 1 0xc0 ++ le 1 0x80) 0 says refusal not_utf8 4 ∷
    element_call 2 0x04 (u32 2 ++ u64 1 ++ u64 38) 0 says refusal zero_digit 12 ∷
    element_call 2 0x06 (u32 2 ++ u32 0) 0 says lacks 8 4 ∷
    element_call 2 0x06 (u32 0) 0 says refusal absent 0 ∷
    element_call 2 0x0a triples_part 1 says refusal absent 0 ∷
    element_call 2 0x17 quadruple_part 1 says refusal absent 0 ∷
    element_call 2 0x27 (u32 300) 1 says refusal absent 0 ∷
    element_call 1 0x19 seven_part 1 says refusal absent 0 ∷
    element_call 1 0x1a sevens_part 2 says refusal absent 0 ∷ []

-- cut in an i64; in a triple's second number, at that number and without the third; in a placement; in the last element of an array; in a string of
-- 2^32 - 1 bytes; in front of an id's byte, in its number and in its second word. Placements of seven: cut in the last number, and read as eight
unfoldable pub cut_elements : List (Fact (Reply Datum))
cut_elements =
    element_call 2 0x31 (u32 0 ++ le 1 0) 0 says lacks 0 3 ∷
    element_call 2 0x09 (u32 0 ++ le 2 0) 0 says lacks 4 2 ∷
    element_call 2 0x19 (four_bits ++ le 3 0) 0 says lacks 16 1 ∷
    element_call 2 0x2c (u32 3 ++ u32 0 ++ le 1 0) 0 says lacks 8 1 ∷
    element_call 2 0x01 (u32 0xffff_ffff) 0 says lacks 4 0xffff_ffff ∷
    element_call 2 0x39 [] 0 says lacks 0 1 ∷
    element_call 2 0x39 (le 1 0xff ++ u32 0) 0 says lacks 1 4 ∷
    element_call 2 0x39 (le 1 2 ++ u64 1 ++ u32 0) 0 says lacks 9 4 ∷
    element_call 1 0x19 (take 27 seven_part) 0 says lacks 24 1 ∷
    element_call 2 0x19 seven_part 0 says lacks 28 4 ∷
    element_call 0 0x19 seven_part 0 says lacks 28 4 ∷
    element_call 257 0x19 seven_part 0 says lacks 28 4 ∷
    element_call 2 0x1a sevens_part 0 says lacks 60 4 ∷ []

-- ---- texts: in an output of ones, which shows what is written

-- in so many steps
abbrev pub written : ℕ → List ℕ → List ℕ → TextAnswer
written steps t rest = record { reply = gives (record { size = length t; steps = steps }); needed = 0; output = t ++ rest }

abbrev pub unwritten : {A : Type 0} → Cause → ℕ → ℕ → List ℕ → WriteAnswer A
unwritten c at needed out = record { reply = refusal c at; needed = needed; output = out }

unfoldable pub texts : List (Fact TextAnswer)
texts =
    text_call 3 worked_file (replicate 75 1) says written 5 worked_text (1 ∷ 1 ∷ []) ∷
    text_call 3 worked_file (replicate 72 1) says unwritten output_short 0 73 (replicate 72 1) ∷
    text_call 3 (take 70 worked_file) (replicate 75 1) says record { reply = lacks 69 3; needed = 0; output = replicate 75 1 } ∷
    text_call 0 (file_with []) (replicate 13 1) says written 1 (ascii "SiiNunit\n{\n}\n") [] ∷
    text_call 3 redefined_file (replicate 33 1) says written 5 (ascii "SiiNunit\n{\nq : null {\n  g: 9\n}\n}\n") [] ∷
    text_call 3 enum_file (replicate 36 1) says written 4 (ascii "SiiNunit\n{\np : null {\n  e: high\n}\n}\n") [] ∷
    text_call 3 vectors_file (replicate 80 1) says written 5 vectors_text (1 ∷ []) ∷
    text_call 3 (seven_file 1) (replicate 74 1) says written 4 seven_text (1 ∷ []) ∷
    text_call 3 sevens_file (replicate 151 1) says written 5 sevens_text (1 ∷ []) ∷
    text_call 3 recounted_file [] says unwritten field_count 44 0 [] ∷
    text_call 3 unlisted_enum_file [] says unwritten enum_value 65 0 [] ∷
    text_call 3 (again_file five_field (definition 0x37 (ascii "e") ++ u32 0 ++ plain_field)) [] says unwritten field_count 51 0 [] ∷
    text_call 3 (again_file five_field plain_field) [] says unwritten enum_value 56 0 [] ∷
    text_call 3 (again_file plain_field five_field) (replicate 33 1) says written 5 (ascii "SiiNunit\n{\np : null {\n  e: 5\n}\n}\n") [] ∷
    text_call 3 (twice_file [] []) (replicate 53 1) says written 7 (ascii "SiiNunit\n{\np : null {\n  b: 1\n}\np : null {\n  b: 2\n}\n}\n") [] ∷ []

-- ---- texts of some of a file's blocks: one that is not printed gives neither 8 nor 9

unfoldable pub printed_text : (DataBlock → List Record → Bool) → List ℕ → Reply (List ℕ)
printed_text prints s = of_file (λ f at. file_text value_text prints f) (parse 3 s)

abbrev pub no_block : DataBlock → List Record → Bool
no_block b l = false

-- with nothing behind it
abbrev pub last_record : DataBlock → List Record → Bool
last_record b [] = true
last_record b (x ∷ l) = false

unfoldable pub printed : List (Fact (Reply (List ℕ)))
printed =
    printed_text no_block worked_file says gives (ascii "SiiNunit\n{\n}\n") ∷
    printed_text no_block recounted_file says gives (ascii "SiiNunit\n{\n}\n") ∷
    printed_text no_block unlisted_enum_file says gives (ascii "SiiNunit\n{\n}\n") ∷
    printed_text last_record worked_file says gives worked_text ∷
    printed_text last_record (twice_file [] []) says gives (ascii "SiiNunit\n{\np : null {\n  b: 2\n}\n}\n") ∷ []
