-- Demand 3 as one claim about the whole list of insertions, over the definitions of the calls: document 01, "Widening". `Demand3` stands at the end; the
-- records in front of it are its parts.
use Rattle.std.specs.Prelude.{◌≡◌, ◌↔◌, ℕ, ◌+◌, ◌/◌, ◌≤◌, cond, List, [], ◌∷◌, ◌++◌, length, take, eqb}
use Rattle.std.proofs.Math.Option.{Option, none, some}
use Rattle.bsii_format.specs.Replies.{Fault, gives, refuses, refusal, unlisted_type, absent}
use Rattle.bsii_format.specs.Reader.{ok, Consumed}
use Rattle.bsii_format.specs.Types.{shape_of}
use Rattle.bsii_format.specs.Values.{Value}
use Rattle.bsii_format.specs.Prototypes.{ValuePrototype}
use Rattle.bsii_format.specs.Blocks.{DataValue}
use Rattle.bsii_format.specs.File.{BsiiFile, Record, prototype, block, record_bytes, values_bytes, file_bytes, distinct_ids, prototypes_of, length_limit, parse}
use Rattle.bsii_format.specs.Text.{value_text}
use Rattle.bsii_format.specs.BlockText.{values_offset}
use Rattle.bsii_format.specs.Calls.{reading_of, reading_call, FieldAnswer, field_call, steps_of, Converted, converted, text_answer, text_call}
use Rattle.bsii_widening.specs.Marks.{MarkedRecords, all, olds, new_records, old_records, mark_records}
use Rattle.bsii_widening.specs.Insertions.{Insertion, a_field, insert, insert_all, DefinitionAllowed, AllAllowed, NoIdTwice}
use Rattle.bsii_widening.specs.Parts.{concat, text_parts, renumber}

-- The old save s: "any save that converts", with some table and some output, "and defines no prototype id twice". `reads` names its parts:
-- the file f and the bytes r behind its end record; `made` is what the conversion answered. A text call that answers is within the length limit.
pub record OldSave (words : ℕ) (s out : List ℕ) (f : BsiiFile) (at : ℕ) (r : List ℕ) (made : Converted) : Type 0 where
  pub reads : parse words s ≡ ok f at r
  pub converts : (text_call words s out).reply ≡ gives made
  pub once : NoIdTwice f.records

-- ---- the new save

-- the marked records after a list of insertions into the old save
unfoldable pub widened : BsiiFile → List Insertion → MarkedRecords
widened f l = insert_all l (mark_records f.records)

-- the old header, the records with all inserted parts, the old end record
abbrev pub new_save : BsiiFile → MarkedRecords → BsiiFile
new_save f M = record { header = f.header; records = new_records M; end = f.end }

-- the new file: those, and what stood behind the end record
unfoldable pub new_file : BsiiFile → List ℕ → MarkedRecords → List ℕ
new_file f r M = file_bytes (new_save f M) ++ r

-- all parts of the new text, and what is left without the inserted ones; `text` gives a field's lines, as `value_text` in the text call
abbrev pub new_text : (ValuePrototype → Value → Option (List ℕ)) → MarkedRecords → List ℕ
new_text text M = concat (all (text_parts text M))

abbrev pub left_text : (ValuePrototype → Value → Option (List ℕ)) → MarkedRecords → List ℕ
left_text text M = concat (olds (text_parts text M))

-- "The file stays within the length limit, and table .. have room."
pub record Room (limit words : ℕ) (f : BsiiFile) (r : List ℕ) (M : MarkedRecords) : Type 0 where
  pub file : length (new_file f r M) ≤ limit
  pub table : distinct_ids (prototypes_of (new_records M)) ≤ words / 3

-- ---- after the list

pub record StillConverts (words : ℕ) (s out : List ℕ) (f : BsiiFile) (r : List ℕ) (made : Converted) (words' : ℕ) (M : MarkedRecords) : Type 0 where
  -- "the save still converts after the list": with every output that has room the text call answers with the new text's length and the new save's steps,
  pub converts : (out' : List ℕ) → length (new_text value_text M) ≤ length out'
      → (text_call words' (new_file f r M) out').reply ≡ gives (converted (steps_of (new_save f M)) (new_text value_text M))
  -- and with any output its whole answer is that of a file which has the new text
  pub text : (out' : List ℕ) → text_call words' (new_file f r M) out' ≡ text_answer (steps_of (new_save f M)) out' (gives (new_text value_text M))
  -- "Every value that the field call found in the old save, by block and field name, it finds in the new one with the same type and bytes (blocks
  -- counted anew)."
  pub found : (k : ℕ) (name : List ℕ) (a : FieldAnswer) → field_call words s k name ≡ gives a
      → (b : FieldAnswer) × (field_call words' (new_file f r M) (renumber M k) name ≡ gives b) × (b.type_id ≡ a.type_id) × (b.bytes ≡ a.bytes)
  -- "Leaving the inserted parts out of the new text gives the old text byte for byte."
  pub left_out : left_text value_text M ≡ take made.size (text_call words s out).output
  -- the records without the inserted parts are the old save's
  pub anchored : old_records M ≡ f.records
  -- the reading call answers, with the new save's counts and the offset behind its end record
  pub reading : reading_call words' (new_file f r M) ≡ gives (reading_of (new_save f M) (length (file_bytes (new_save f M))))
  -- a field call refuses what is not there, and nothing else, whatever block and name it is asked for
  pub field : (k : ℕ) (name : List ℕ) (x : Fault) → field_call words' (new_file f r M) k name ≡ refuses x → field_call words' (new_file f r M) k name ≡ refusal absent 0

-- ---- after one last definition of an unlisted type

-- "The first such value starts at the matching spot of the first such block in the file": position p of the first block of the id n; none
-- where no block carries it
unfoldable pub first_carried : ℕ → ℕ → ℕ → List Record → Option ℕ
first_carried n p at [] = none
first_carried n p at (prototype q ∷ l) = first_carried n p (at + length (record_bytes (prototype q))) l
first_carried n p at (block b ∷ l) =
    cond (eqb n b.prototype_id) (some (values_offset at b + length (values_bytes (take p b.values))))
    (first_carried n p (at + length (record_bytes (block b))) l)

-- "every reading, field or text call gives 7 there"
pub record Refused (words x : ℕ) (s : List ℕ) : Type 0 where
  pub reading : reading_call words s ≡ refusal unlisted_type x
  pub field : (k : ℕ) (name : List ℕ) → field_call words s k name ≡ refusal unlisted_type x
  pub text : (out : List ℕ) → text_call words s out ≡ record { reply = refusal unlisted_type x; needed = 0; output = out }

-- 7 at x "exactly when a block carries it" and its first value starts at x: o is `first_carried`'s answer
pub record ExactlyWhen (words : ℕ) (s : List ℕ) (o : Option ℕ) : Type 0 where
  pub reading : (x : ℕ) → (reading_call words s ≡ refusal unlisted_type x) ↔ (o ≡ some x)
  pub field : (k : ℕ) (name : List ℕ) (x : ℕ) → (field_call words s k name ≡ refusal unlisted_type x) ↔ (o ≡ some x)
  pub text : (out : List ℕ) (x : ℕ) → ((text_call words s out).reply ≡ refusal unlisted_type x) ↔ (o ≡ some x)

-- M is the file with the last definition, and its first value starts at o
pub record AfterLast (words : ℕ) (s out : List ℕ) (f : BsiiFile) (r : List ℕ) (made : Converted) (words' : ℕ) (M : MarkedRecords) (o : Option ℕ) : Type 0 where
  -- "the reading, field and text calls refuse the save, at the first such value"
  pub carried : (x : ℕ) → o ≡ some x → Refused words' x (new_file f r M)
  -- "if none does, all of the above holds"
  pub unused : o ≡ none → StillConverts words s out f r made words' M
  pub exactly : ExactlyWhen words' (new_file f r M) o

-- "After the list, one last (i) .. may have an unlisted type, not 0: 'listed' is dropped for that type, and 'well-formed' for its values, which
-- are any bytes or none": v gives any value, so any bytes, for each block
abbrev pub LastUnlisted : (words : ℕ) (s out : List ℕ) (f : BsiiFile) (r : List ℕ) (made : Converted) (words' : ℕ) → MarkedRecords → Type 0
LastUnlisted words s out f r made words' M =
    (n p : ℕ) (d : Consumed ValuePrototype) (v : ℕ → DataValue) → DefinitionAllowed n p d M → shape_of f.header.value d.value.type_id ≡ none
    → Room length_limit words' f r (insert (a_field n p d v) M)
    → AfterLast words s out f r made words' (insert (a_field n p d v) M) (first_carried n p (length f.header.raw) (new_records (insert (a_field n p d v) M)))

-- "Demand 3 is a single claim about the whole list, the empty one included", over saves of every version: `f.header.value`, which no insertion changes
abbrev pub Demand3 : Type 0
Demand3 =
    (words : ℕ) (s out : List ℕ) (f : BsiiFile) (at : ℕ) (r : List ℕ) (made : Converted) → OldSave words s out f at r made
    → (l : List Insertion) → AllAllowed f.header.value l (mark_records f.records) → (words' : ℕ)
    → (s ≡ new_file f r (mark_records f.records))
    × (Room length_limit words' f r (widened f l) → StillConverts words s out f r made words' (widened f l))
    × LastUnlisted words s out f r made words' (widened f l)
