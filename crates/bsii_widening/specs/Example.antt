-- A worked list of insertions into document 01's worked file: one of each kind, and a last definition of an unlisted type. proofs/Example.antt shows
-- by computation that they meet the premises of demand 3, so the theorem is not empty.
use Rattle.std.specs.Prelude.{ℕ, List, [], ◌∷◌, ◌++◌}
use Rattle.bsii_format.specs.Ascii.{ascii}
use Rattle.bsii_format.specs.Reader.{Result, ok, fault, Consumed, with}
use Rattle.bsii_format.specs.Values.{array}
use Rattle.bsii_format.specs.Prototypes.{ValuePrototype}
use Rattle.bsii_format.specs.Blocks.{DataValue}
use Rattle.bsii_format.specs.File.{BsiiFile, parse}
use Rattle.bsii_format.specs.Calls.{Converted}
use Rattle.bsii_format.specs.Worked.{le, u32, worked_file}
use Rattle.bsii_widening.specs.Marks.{MarkedRecords, mark_records}
use Rattle.bsii_widening.specs.Insertions.{Insertion, a_field, insert}
use Rattle.bsii_widening.specs.Written.{Written, field, prototype_at, block_at, made_all}
use Rattle.bsii_widening.specs.Claim.{widened}

unfoldable pub file_of : Result BsiiFile → BsiiFile
file_of (ok f at r) = f
file_of (fault x) = record { header = with 0 []; records = []; end = [] }

unfoldable pub old_file : BsiiFile
old_file = file_of (parse 768 worked_file)

-- its text of 73 bytes, in five steps
abbrev pub old_made : Converted
old_made = record { size = 73; steps = 5 }

-- (i) the enum `e` behind `km`, with the list 5 `five`; 5 in block 0
unfoldable pub enum_field : Written
enum_field = field 7 1 (u32 0x37 ++ u32 1 ++ ascii "e" ++ u32 1 ++ u32 5 ++ u32 4 ++ ascii "five") (u32 5 ∷ [])

-- (ii) the prototype 9, `p`, with one bool `b`, in front of the first record
unfoldable pub extra_prototype : Written
extra_prototype = prototype_at 0 (u32 0 ++ le 1 1 ++ u32 9 ++ u32 1 ++ ascii "p" ++ u32 0x35 ++ u32 1 ++ ascii "b" ++ u32 0)

-- (iii) a block of it, with the id `null`, in front of the end record
unfoldable pub extra_block : Written
extra_block = block_at 3 (u32 9 ++ le 1 0 ++ le 1 1)

unfoldable pub additions : List Insertion
additions = made_all 2 (enum_field ∷ extra_prototype ∷ extra_block ∷ []) (mark_records old_file.records)

unfoldable pub additions_text : List ℕ
additions_text =
    ascii "SiiNunit\n{\ntrip : a1 {\n  km: 300\n  e: five\n  w: 2\n  w[0]: &3fc00000\n  w[1]: -2\n}\np : null {\n  b: true\n}\n}\n"

-- the last definition, of the unlisted type 8 in front of `km`, with three bytes in the block of the id 7 and none in other blocks
unfoldable pub unlisted_field : Consumed ValuePrototype
unlisted_field = with (record { type_id = 8; name = ascii "u"; enum_values = [] }) (u32 8 ++ u32 1 ++ ascii "u")

unfoldable pub any_bytes : ℕ → DataValue
any_bytes k = record { type_id = 8; value = array []; raw = 1 ∷ 2 ∷ 3 ∷ [] }

unfoldable pub after_unlisted : MarkedRecords
after_unlisted = insert (a_field 7 0 unlisted_field any_bytes) (widened old_file additions)

-- the prototype alone: no block is of the id 9
unfoldable pub unused : List Insertion
unused = made_all 2 (extra_prototype ∷ []) (mark_records old_file.records)
