-- The text of blocks and of the file, with refusals 8 and 9: document 01, "src/bsii_output.rs" and "Order"; FORMAT.md, "The text".
use Rattle.std.specs.Prelude.{ℕ, ◌+◌, Bool, true, cond, List, [], ◌∷◌, ◌++◌, length, eqb}
use Rattle.std.proofs.Math.Option.{Option, none, some}
use Rattle.bsii_format.specs.Ascii.{ascii}
use Rattle.bsii_format.specs.declared.Cause.{Cause}
use Rattle.bsii_format.specs.Replies.{Reply, gives, refuses, refusal, undefined_prototype, field_count, enum_value}
use Rattle.bsii_format.specs.Reader.{Consumed}
use Rattle.bsii_format.specs.Strings.{Id}
use Rattle.bsii_format.specs.Values.{Value}
use Rattle.bsii_format.specs.Prototypes.{ValuePrototype, Prototype}
use Rattle.bsii_format.specs.Blocks.{DataValue, DataBlock, get_prototype}
use Rattle.bsii_format.specs.File.{BsiiFile, Record, prototype, block, record_bytes, prototypes_of}
use Rattle.bsii_format.specs.Text.{id_text}

-- one text behind the other; the first refusal wins
unfoldable pub joined : Reply (List ℕ) → Reply (List ℕ) → Reply (List ℕ)
joined (gives a) (gives b) = gives (a ++ b)
joined (gives a) (refuses f) = refuses f
joined (refuses f) b = refuses f

unfoldable pub or_refuse : {A : Type 0} → Cause → ℕ → Option A → Reply A
or_refuse c at none = refusal c at
or_refuse c at (some a) = gives a

-- "A block: `NAME : ID {`, the fields, `}`"
unfoldable pub block_opening : List ℕ → Id → List ℕ
block_opening name i = name ++ ascii " : " ++ id_text i ++ ascii " {\n"

unfoldable pub closing : List ℕ
closing = ascii "}\n"

-- "`SiiNunit`, `{`, the blocks in order, `}`"
unfoldable pub file_opening : List ℕ
file_opening = ascii "SiiNunit\n{\n"

-- a block's first value starts behind its prototype id and its id
unfoldable pub values_offset : ℕ → DataBlock → ℕ
values_offset at b = at + length b.head + length b.id.raw

-- "the blocks in order": all of them
abbrev pub every_block : DataBlock → List Record → Bool
every_block b l = true

-- `text` gives a field's lines, none for an enum value that is not in its list: `value_text` in the text call
module _ (text : ValuePrototype → Value → Option (List ℕ)) where
  -- The lines of a block's fields under the last definition's, the first value at the offset `at`. 9: "value not in the last
  -- definition's list, or no list there", at "value". Both lists have one length, or 8 was given
  unfoldable pub fields_text : ℕ → List (Consumed ValuePrototype) → List DataValue → Reply (List ℕ)
  fields_text at [] l = gives []
  fields_text at (f ∷ fs) [] = gives []
  fields_text at (f ∷ fs) (v ∷ l) = joined (or_refuse enum_value at (text f.value v.value)) (fields_text (at + length v.raw) fs l)

  -- A block at the offset `at` under the last definition of its id; an accepted block has one. 8: "last definition has another number
  -- of fields than the block", at "block"
  unfoldable pub block_text : ℕ → Option Prototype → DataBlock → Reply (List ℕ)
  block_text at none b = refusal undefined_prototype at
  block_text at (some p) b =
      cond (eqb (length p.fields) (length b.values))
      (joined (joined (gives (block_opening p.name b.id.value)) (fields_text (values_offset at b) p.fields b.values)) (gives closing))
      (refusal field_count at)

  -- `prints` tells of a block and the records behind it whether the block is in the text: `every_block` in the text call
  module _ (prints : DataBlock → List Record → Bool) where
    -- the blocks of a list of records, the first record at the offset `at`; 8 and 9 "in text order"
    unfoldable pub records_text : List Prototype → ℕ → List Record → Reply (List ℕ)
    records_text last at [] = gives []
    records_text last at (prototype p ∷ l) = records_text last (at + length (record_bytes (prototype p))) l
    records_text last at (block b ∷ l) =
        joined (cond (prints b l) (block_text at (get_prototype b.prototype_id last) b) (gives [])) (records_text last (at + length (record_bytes (block b))) l)

    unfoldable pub file_text : BsiiFile → Reply (List ℕ)
    file_text f =
        joined (joined (gives file_opening) (records_text (prototypes_of f.records) (length f.header.raw) f.records)) (gives closing)
