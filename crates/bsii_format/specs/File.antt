-- Records and the whole file: document 01, "src/bsii_parse.rs"; document 02, E2 and E12; FORMAT.md, "The file".
use Rattle.std.specs.Prelude.{ℕ, zero, suc, ◌/◌, Bool, true, cond, List, [], ◌∷◌, ◌++◌, length, leb, eqb}
use Rattle.std.proofs.Math.Option.{Option, none, some}
use Rattle.bsii_format.specs.Ascii.{ascii}
use Rattle.bsii_format.specs.Replies.{invalid_header, undefined_prototype, table_full, input_long, bad_mark}
use Rattle.bsii_format.specs.Reader.{Result, fault_at, Reader, after, success, exhausted, verify, tag, Consumed, consumed, ◌>>=◌, ◌<$>◌}
use Rattle.bsii_format.specs.Numbers.{le_u8, le_u32}
use Rattle.bsii_format.specs.Strings.{is_some, str_parser, Id, id_parser}
use Rattle.bsii_format.specs.Prototypes.{ValuePrototype, Prototype, Fields, fields_parser}
use Rattle.bsii_format.specs.Blocks.{DataValue, DataBlock, get_prototype, data_values_parser}

-- ---- records

pub data Record : Type 0 where
  prototype : Prototype → Record
  block : DataBlock → Record

-- how a record begins: the end record; a prototype, its id and its name; a block, its prototype id
pub data Head : Type 0 where
  ending : Head
  defining : ℕ → List ℕ → Head
  carrying : ℕ → Head

-- behind a mark, which `head_parser` has found to be 0 or 1
unfoldable pub mark_parser : ℕ → Reader Head
mark_parser zero = success ending
mark_parser (suc m) = do
  n ← le_u32
  s ← str_parser
  success (defining n s)

-- "Record number u32 zero and next byte 0: end record (5 bytes). .. Next byte 1: a prototype." 15: "when the byte after a zero record number is
-- neither 0 nor 1, at that byte, in 3's old place"
unfoldable pub head_parser : Reader Head
head_parser = do
  n ← le_u32
  cond (eqb n 0) (verify (λ m. leb m 1) bad_mark le_u8 >>= mark_parser) (success (carrying n))

-- what stands at a record's place: the end record's bytes, or a record
pub data Step : Type 0 where
  end : List ℕ → Step
  more : Record → Step

unfoldable pub prototype_step : List ℕ → ℕ → List ℕ → Fields → Step
prototype_step h n name l = more (prototype (record { head = h; id = n; name = name; fields = l.fields; terminator = l.terminator }))

unfoldable pub block_step : List ℕ → ℕ → Consumed Id → List DataValue → Step
block_step h n i l = more (block (record { head = h; prototype_id = n; id = i; values = l }))

module _ (version : ℕ) where
  -- a block under the definition in force; 6: "block's prototype undefined so far", at the block, before its id is read
  unfoldable pub data_block_parser : ℕ → List ℕ → ℕ → Option Prototype → Reader Step
  data_block_parser start h n none at s = fault_at undefined_prototype start
  data_block_parser start h n (some p) at s = (consumed id_parser >>= (λ i. block_step h n i <$> data_values_parser version p.fields)) at s

  -- env: the definitions so far, the last one first; start: the record's offset; h: the bytes of its head
  unfoldable pub step_parser : List Prototype → ℕ → List ℕ → Head → Reader Step
  step_parser env start h ending = success (end h)
  step_parser env start h (defining n name) = prototype_step h n name <$> fields_parser
  step_parser env start h (carrying n) = data_block_parser start h n (get_prototype n env)

  unfoldable pub record_parser : List Prototype → Reader Step
  record_parser env at s = after (consumed head_parser at s) (λ h. step_parser env at h.raw h.value)

-- ---- the definitions so far, and the table's room

unfoldable pub define : Record → List Prototype → List Prototype
define (prototype p) env = p ∷ env
define (block b) env = env

unfoldable pub distinct_ids : List Prototype → ℕ
distinct_ids [] = 0
distinct_ids (p ∷ env) = cond (is_some (get_prototype p.id env)) (distinct_ids env) (suc (distinct_ids env))

-- 10: "a new id beyond a third of the words, rounded down": `rooms` is that third
unfoldable pub has_room : ℕ → List Prototype → Record → Bool
has_room rooms env (prototype p) = leb (distinct_ids (p ∷ env)) rooms
has_room rooms env (block b) = true

-- ---- the records up to the end record

pub record Records : Type 0 where
  pub records : List Record
  pub end : List ℕ

unfoldable pub cons_record : Record → Records → Records
cons_record r l = record { records = r ∷ l.records; end = l.end }

-- 10 stands at "prototype", once "that prototype is read whole"
unfoldable pub records_then : ℕ → List Prototype → ℕ → (List Prototype → Reader Records) → Step → Reader Records
records_then rooms env start rest (end l) = success (record { records = []; end = l })
records_then rooms env start rest (more r) =
    cond (has_room rooms env r) (cons_record r <$> rest (define r env)) (λ at s. fault_at table_full start)

module _ (version rooms : ℕ) where
  -- The fuel is the number of bytes left, and a record has at least one: with none left the u32 that is due runs out.
  unfoldable pub records_from : ℕ → List Prototype → Reader Records
  records_from zero env at s = exhausted 4 at s
  records_from (suc n) env at s = after (record_parser version env at s) (records_then rooms env at (λ e. records_from n e))

  unfoldable pub records_parser : Reader Records
  records_parser at s = records_from (length s) [] at s

-- ---- the file

-- "BSII", u32 version: any, "Reply 2 is retired and never occurs"
unfoldable pub header_parser : Reader ℕ
header_parser = do
  u ← tag (ascii "BSII") invalid_header
  le_u32

-- the version with the header's bytes, the records in order, and the end record's bytes; "Bytes after it are ignored"
pub record BsiiFile : Type 0 where
  pub header : Consumed ℕ
  pub records : List Record
  pub end : List ℕ

unfoldable pub bsii_file : Consumed ℕ → Records → BsiiFile
bsii_file h l = record { header = h; records = l.records; end = l.end }

unfoldable pub bsii_parser : ℕ → Reader BsiiFile
bsii_parser rooms = consumed header_parser >>= (λ h. bsii_file h <$> records_parser h.value rooms)

-- 12: "input above 16,777,216 bytes"
abbrev pub length_limit : ℕ
length_limit = 16_777_216

-- "Order: 12; then the file from front to back, first fault met": the file in s for a table of n words
unfoldable pub parse : ℕ → List ℕ → Result BsiiFile
parse words s = cond (leb (length s) length_limit) (bsii_parser (words / 3) 0 s) (fault_at input_long 0)

-- ---- the bytes of what was read

unfoldable pub fields_bytes : List (Consumed ValuePrototype) → List ℕ
fields_bytes [] = []
fields_bytes (f ∷ fs) = f.raw ++ fields_bytes fs

unfoldable pub values_bytes : List DataValue → List ℕ
values_bytes [] = []
values_bytes (v ∷ l) = v.raw ++ values_bytes l

unfoldable pub record_bytes : Record → List ℕ
record_bytes (prototype p) = p.head ++ (fields_bytes p.fields ++ p.terminator)
record_bytes (block b) = b.head ++ (b.id.raw ++ values_bytes b.values)

unfoldable pub records_bytes : List Record → List ℕ
records_bytes [] = []
records_bytes (r ∷ l) = record_bytes r ++ records_bytes l

unfoldable pub file_bytes : BsiiFile → List ℕ
file_bytes f = f.header.raw ++ (records_bytes f.records ++ f.end)

-- all definitions of a list of records in front of env, the last one first
unfoldable pub define_all : List Record → List Prototype → List Prototype
define_all [] env = env
define_all (r ∷ l) env = define_all l (define r env)

-- the file's definitions, the last one first: what "the **last** definition of an id" is looked up in
unfoldable pub prototypes_of : List Record → List Prototype
prototypes_of l = define_all l []
