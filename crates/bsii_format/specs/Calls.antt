-- What each call answers, as a function of the bytes, the number of table words, the output and the arguments: document 01,
-- "src/bsii_file.rs", "src/bsii_output.rs" and "Replies in number order"; FORMAT.md, "Calls".
use Rattle.std.specs.Prelude.{ℕ, zero, suc, ◌+◌, Bool, true, false, cond, List, [], ◌∷◌, ◌++◌, length, drop, get_or, replicate, leb, ℤ, Float}
use Rattle.std.proofs.Math.Option.{Option, none, some, map}
use Rattle.std.proofs.Math.ListN.{get_elem?}
use Rattle.std.specs.Float.{binary32}
use Rattle.std.specs.Float.Ieee.{of_bits}
use Rattle.bsii_format.specs.Ascii.{ascii}
use Rattle.bsii_format.specs.Replies.{number_of, Reply, gives, refuses, refusal, output_short, input_long, absent}
use Rattle.bsii_format.specs.Reader.{Result, ok, fault, same, Consumed}
use Rattle.bsii_format.specs.Numbers.{signed}
use Rattle.bsii_format.specs.Types.{Numeric, float, float_vec2, float_vec3, float_vec4, float_vec7, float_vec8, int32, int32_vec3, uint32, uint16, int64, uint64, bool, enum}
use Rattle.bsii_format.specs.Values.{Element, nums, str, word, ident, Value, single, array, value_parser}
use Rattle.bsii_format.specs.Prototypes.{ValuePrototype, Prototype}
use Rattle.bsii_format.specs.Blocks.{DataValue, DataBlock, find_by, get_prototype}
use Rattle.bsii_format.specs.File.{Record, prototype, block, record_bytes, distinct_ids, prototypes_of, BsiiFile, parse}
use Rattle.bsii_format.specs.Digits.{decimal}
use Rattle.bsii_format.specs.Text.{value_text}
use Rattle.bsii_format.specs.BlockText.{or_refuse, values_offset, every_block, file_text}

-- ---- what the calls share

-- "the table is all zero after every call"
abbrev pub table_after : List ℕ → List ℕ
table_after table = replicate (length table) 0

-- what a call makes of the file and of the offset after its end record, or the file's first fault: "then 13" comes last
unfoldable pub of_file : {A : Type 0} → (BsiiFile → ℕ → Reply A) → Result BsiiFile → Reply A
of_file answer (ok f at r) = answer f at
of_file answer (fault x) = refuses x

-- 13: "block, prototype, name or element not there", at 0
abbrev pub or_absent : {A : Type 0} → Option A → Reply A
or_absent = or_refuse absent 0

-- "A place is an offset and a length."
pub record Place : Type 0 where
  pub offset : ℕ
  pub size : ℕ

-- something and the offset where it starts
pub record Placed (A : Type 0) : Type 0 where
  pub offset : ℕ
  pub it : A

-- the items of a list one behind the other, the first one at the offset `at`
unfoldable pub placed : {A : Type 0} → (A → ℕ) → ℕ → List A → List (Placed A)
placed size at [] = []
placed size at (a ∷ l) = record { offset = at; it = a } ∷ placed size (at + size a) l

unfoldable pub placed_records : BsiiFile → List (Placed Record)
placed_records f = placed (λ r. length (record_bytes r)) (length f.header.raw) f.records

unfoldable pub cons_block : ℕ → Record → List (Placed DataBlock) → List (Placed DataBlock)
cons_block at (prototype p) l = l
cons_block at (block b) l = record { offset = at; it = b } ∷ l

-- the blocks, in order
unfoldable pub blocks_in : List (Placed Record) → List (Placed DataBlock)
blocks_in [] = []
blocks_in (r ∷ l) = cons_block r.offset r.it (blocks_in l)

unfoldable pub cons_prototype : ℕ → Record → List (Placed Prototype) → List (Placed Prototype)
cons_prototype at (prototype p) env = record { offset = at; it = p } ∷ env
cons_prototype at (block b) env = env

-- the definitions, the last one first
unfoldable pub prototypes_in : List (Placed Record) → List (Placed Prototype) → List (Placed Prototype)
prototypes_in [] env = env
prototypes_in (r ∷ l) env = prototypes_in l (cons_prototype r.offset r.it env)

unfoldable pub blocks_of : BsiiFile → List (Placed DataBlock)
blocks_of f = blocks_in (placed_records f)

-- ---- "Reading: number of distinct prototype ids, number of blocks, offset after the end record."

pub record Reading : Type 0 where
  pub prototypes : ℕ
  pub blocks : ℕ
  pub next : ℕ

unfoldable pub reading_of : BsiiFile → ℕ → Reading
reading_of f at = record { prototypes = distinct_ids (prototypes_of f.records); blocks = length (blocks_of f); next = at }

unfoldable pub reading_call : ℕ → List ℕ → Reply Reading
reading_call words s = of_file (λ f at. gives (reading_of f at)) (parse words s)

-- ---- "Prototype by id (`get_prototype`): the name's place and the number of fields."

pub record PrototypeAnswer : Type 0 where
  pub name : Place
  pub fields : ℕ

-- the name stands behind a u32 zero, a byte 1, the u32 id and the u32 length of the name
unfoldable pub prototype_answer : Placed Prototype → PrototypeAnswer
prototype_answer p = record {
  name = record { offset = p.offset + (4 + 1 + 4 + 4); size = length p.it.name };
  fields = length p.it.fields;
}

unfoldable pub prototype_of : ℕ → BsiiFile → Option PrototypeAnswer
prototype_of n f = map prototype_answer (find_by (λ (p : Placed Prototype). p.it.id) n (prototypes_in (placed_records f) []))

unfoldable pub prototype_call : ℕ → List ℕ → ℕ → Reply PrototypeAnswer
prototype_call words s n = of_file (λ f at. or_absent (prototype_of n f)) (parse words s)

-- ---- "Block by number, from 0: prototype id, and the place of the id's bytes."

pub record BlockAnswer : Type 0 where
  pub prototype_id : ℕ
  pub id : Place

-- the id's bytes are all of it, the byte n included
unfoldable pub block_answer : Placed DataBlock → BlockAnswer
block_answer b = record {
  prototype_id = b.it.prototype_id;
  id = record { offset = b.offset + length b.it.head; size = length b.it.id.raw };
}

unfoldable pub block_call : ℕ → List ℕ → ℕ → Reply BlockAnswer
block_call words s k = of_file (λ f at. or_absent (map block_answer (get_elem? (blocks_of f) k))) (parse words s)

-- ---- "n-th block, from 0, under a prototype name (`blocks_by_prototype_name`): its number."

-- names "are those of the **last** definition of an id"
unfoldable pub is_named : List ℕ → Option Prototype → Bool
is_named name none = false
is_named name (some p) = same name p.name

-- the numbers of the blocks under the name, the first block of the list having the number k
unfoldable pub numbers_named : List Prototype → List ℕ → ℕ → List (Placed DataBlock) → List ℕ
numbers_named last name k [] = []
numbers_named last name k (b ∷ l) =
    cond (is_named name (get_prototype b.it.prototype_id last)) (k ∷ numbers_named last name (suc k) l) (numbers_named last name (suc k) l)

unfoldable pub blocks_by_prototype_name : List ℕ → BsiiFile → List ℕ
blocks_by_prototype_name name f = numbers_named (prototypes_of f.records) name 0 (blocks_of f)

unfoldable pub named_block_call : ℕ → List ℕ → List ℕ → ℕ → Reply ℕ
named_block_call words s name n = of_file (λ f at. or_absent (get_elem? (blocks_by_prototype_name name f) n)) (parse words s)

-- ---- "Field by block number and name (`DataBlock::field`)"

-- "the first definition so named; its position"
unfoldable pub field_index : List ℕ → List (Consumed ValuePrototype) → Option ℕ
field_index name [] = none
field_index name (f ∷ fs) = cond (same name f.value.name) (some 0) (map suc (field_index name fs))

-- the value at that position: "Absent if the block has no value there."
unfoldable pub at_index : {A : Type 0} → List A → Option ℕ → Option A
at_index l none = none
at_index l (some i) = get_elem? l i

-- definitions "are those of the **last** definition of an id, types those in force when the block was read"
unfoldable pub field_under : List ℕ → Placed DataBlock → Option Prototype → Option (Placed DataValue)
field_under name b none = none
field_under name b (some p) =
    at_index (placed (λ (v : DataValue). length v.raw) (values_offset b.offset b.it) b.it.values) (field_index name p.fields)

unfoldable pub field_in : List ℕ → List Prototype → Option (Placed DataBlock) → Option (Placed DataValue)
field_in name last none = none
field_in name last (some b) = field_under name b (get_prototype b.it.prototype_id last)

-- "the answer is the type and the part of the caller's input that encodes the value"; `bytes` are those of the part
pub record FieldAnswer : Type 0 where
  pub type_id : ℕ
  pub part : Place
  pub bytes : List ℕ

unfoldable pub field_answer : Placed DataValue → FieldAnswer
field_answer v = record { type_id = v.it.type_id; part = record { offset = v.offset; size = length v.it.raw }; bytes = v.it.raw }

unfoldable pub field_of : ℕ → List ℕ → BsiiFile → Option FieldAnswer
field_of k name f = map field_answer (field_in name (prototypes_of f.records) (get_elem? (blocks_of f) k))

unfoldable pub field_call : ℕ → List ℕ → ℕ → List ℕ → Reply FieldAnswer
field_call words s k name = of_file (λ f at. or_absent (field_of k name f)) (parse words s)

-- "The part may have a call of its own, empty exactly where the look-up refuses."
unfoldable pub part_of : Reply FieldAnswer → List ℕ
part_of (gives a) = a.bytes
part_of (refuses f) = []

-- ---- "Element (no table): type, a slice, an index"; E12: and the version

-- "one case for each kind of value, floats kept as floats; strings and ids as a place in the slice (a string's without its u32 length), an
-- encoded word as its low 63 bits"
pub data Datum : Type 0 where
  d_string : Place → Datum
  d_encoded_string : ℕ → Datum
  d_float : Float → Datum
  d_float_vec2 : Float → Float → Datum
  d_float_vec3 : Float → Float → Float → Datum
  d_float_vec4 : Float → Float → Float → Float → Datum
  d_float_vec7 : Float → Float → Float → Float → Float → Float → Float → Datum
  d_float_vec8 : Float → Float → Float → Float → Float → Float → Float → Float → Datum
  d_int32 : ℤ → Datum
  d_int32_vec3 : ℤ → ℤ → ℤ → Datum
  d_uint32 d_uint16 : ℕ → Datum
  d_int64 : ℤ → Datum
  d_uint64 : ℕ → Datum
  d_bool : Bool → Datum
  d_enum : ℕ → Datum
  d_id : Place → Datum

-- the i-th number, as a float and as an i32
abbrev pub float_at : List ℕ → ℕ → Float
float_at l i = of_bits binary32 (get_or l i 0)

abbrev pub int32_at : List ℕ → ℕ → ℤ
int32_at l i = signed 0x8000_0000 (get_or l i 0)

-- "bool (a byte, nonzero is true)"
unfoldable pub nonzero : ℕ → Bool
nonzero zero = false
nonzero (suc n) = true

unfoldable pub numeric_datum : Numeric → List ℕ → Datum
numeric_datum float l = d_float (float_at l 0)
numeric_datum float_vec2 l = d_float_vec2 (float_at l 0) (float_at l 1)
numeric_datum float_vec3 l = d_float_vec3 (float_at l 0) (float_at l 1) (float_at l 2)
numeric_datum float_vec4 l = d_float_vec4 (float_at l 0) (float_at l 1) (float_at l 2) (float_at l 3)
numeric_datum float_vec7 l = d_float_vec7 (float_at l 0) (float_at l 1) (float_at l 2) (float_at l 3) (float_at l 4) (float_at l 5) (float_at l 6)
numeric_datum float_vec8 l = d_float_vec8 (float_at l 0) (float_at l 1) (float_at l 2) (float_at l 3) (float_at l 4) (float_at l 5) (float_at l 6) (float_at l 7)
numeric_datum int32 l = d_int32 (int32_at l 0)
numeric_datum int32_vec3 l = d_int32_vec3 (int32_at l 0) (int32_at l 1) (int32_at l 2)
numeric_datum uint32 l = d_uint32 (get_or l 0 0)
numeric_datum uint16 l = d_uint16 (get_or l 0 0)
numeric_datum int64 l = d_int64 (signed 0x8000_0000_0000_0000 (get_or l 0 0))
numeric_datum uint64 l = d_uint64 (get_or l 0 0)
numeric_datum bool l = d_bool (nonzero (get_or l 0 0))
numeric_datum enum l = d_enum (get_or l 0 0)

-- an element at the offset `at`, of n bytes
unfoldable pub datum_of : ℕ → ℕ → Element → Datum
datum_of at size (nums k l) = numeric_datum k l
datum_of at size (str s) = d_string (record { offset = at + 4; size = length s })
datum_of at size (word n) = d_encoded_string n
datum_of at size (ident i) = d_id (record { offset = at; size = size })

unfoldable pub datum : Placed (Consumed Element) → Datum
datum e = datum_of e.offset (length e.it.raw) e.it.value

-- the elements with their offsets in the slice: an array's stand behind its u32 count; "a single value has index 0 only"
unfoldable pub elements_of : Value → List (Placed (Consumed Element))
elements_of (single e) = placed (λ (x : Consumed Element). length x.raw) 0 (e ∷ [])
elements_of (array l) = placed (λ (x : Consumed Element). length x.raw) 4 l

unfoldable pub of_value : ℕ → Result Value → Reply Datum
of_value i (ok v at r) = or_absent (map datum (get_elem? (elements_of v) i))
of_value i (fault f) = refuses f

-- "the whole value is read from the slice's start, bytes after it are ignored"; "The element call gives 3, 4, 5, 7, 13 only."; the version: "the element
-- call is given it"
unfoldable pub element_call : ℕ → ℕ → List ℕ → ℕ → Reply Datum
element_call version t s i = of_value i (value_parser version t 0 s)

-- ---- text

-- the text, or the first fault of the file, or 8 or 9
unfoldable pub text_of : ℕ → List ℕ → Reply (List ℕ)
text_of words s = of_file (λ f at. file_text value_text every_block f) (parse words s)

-- ---- "the walk's steps": document 02, E6, "one for each record, the end record included, and one for each value of a block, an array being one"

unfoldable pub record_steps : Record → ℕ
record_steps (prototype p) = 1
record_steps (block b) = 1 + length b.values

-- of the records in front of the end record
unfoldable pub records_steps : List Record → ℕ
records_steps [] = 0
records_steps (r ∷ l) = record_steps r + records_steps l

unfoldable pub steps_of : BsiiFile → ℕ
steps_of f = records_steps f.records + 1

-- of what was read: a refusal reports none
unfoldable pub steps_in : Result BsiiFile → ℕ
steps_in (ok f at r) = steps_of f
steps_in (fault x) = 0

-- ---- calls that write

-- what a call answers of the bytes that it has written, or a refusal; with 11 the needed length, else 0; the output after the call
pub record WriteAnswer (A : Type 0) : Type 0 where
  pub reply : Reply A
  pub needed : ℕ
  pub output : List ℕ

-- 11: "text longer than the output; needed length also given", at 0; "output bytes beyond it keep their values"; "A refusal changes no
-- output byte." `answer` is what is said of bytes that were written
unfoldable pub write_answer : {A : Type 0} → (List ℕ → A) → List ℕ → Reply (List ℕ) → WriteAnswer A
write_answer answer out (gives t) =
    cond (leb (length t) (length out))
    (record { reply = gives (answer t); needed = 0; output = t ++ drop (length t) out })
    (record { reply = refusal output_short 0; needed = length t; output = out })
write_answer answer out (refuses f) = record { reply = refuses f; needed = 0; output = out }

-- "answers the text's length"; E6: "The conversion reports the steps that it made in its result."
pub record Converted : Type 0 where
  pub size : ℕ
  pub steps : ℕ

abbrev pub converted : ℕ → List ℕ → Converted
converted steps t = record { size = length t; steps = steps }

abbrev pub TextAnswer : Type 0
TextAnswer = WriteAnswer Converted

-- the text of a file that is read in so many steps
abbrev pub text_answer : ℕ → List ℕ → Reply (List ℕ) → TextAnswer
text_answer steps out q = write_answer (converted steps) out q

-- "The text call takes file, table and output"
unfoldable pub text_call : ℕ → List ℕ → List ℕ → TextAnswer
text_call words s out = text_answer (steps_in (parse words s)) out (text_of words s)

-- ---- the program: "reads standard input (at most 65,536 bytes, else 12), has 768 table words and 65,536 output bytes"

-- "prints the text, or `refused N at P` and byte 10, with refusal number N and offset P in decimal"
unfoldable pub printed : Reply (List ℕ) → List ℕ
printed (gives t) = t
printed (refuses f) = ascii "refused " ++ decimal (number_of f.cause) ++ ascii " at " ++ decimal f.offset ++ ascii "\n"

-- a text of at most n bytes, else 11
unfoldable pub of_size : ℕ → Reply (List ℕ) → Reply (List ℕ)
of_size n (gives t) = cond (leb (length t) n) (gives t) (refusal output_short 0)
of_size n (refuses f) = refuses f

unfoldable pub program : List ℕ → List ℕ
program s = printed (cond (leb (length s) 65_536) (of_size 65_536 (text_of 768 s)) (refusal input_long 0))
