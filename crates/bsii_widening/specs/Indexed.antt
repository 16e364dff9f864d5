-- Demand 3 through an index: document 02, E1, "The ledger must get equal values through the index from a widened save and its own index." The old save need
-- not convert, only be read; `IndexSurvives` and `OwnIndexSurvives` stand at the end.
use Rattle.std.specs.Prelude.{◌≡◌, ◌↔◌, ℕ, ◌^◌, ◌≤◌, List, length}
use Rattle.std.proofs.Math.Option.{Option, none, some}
use Rattle.bsii_format.specs.Replies.{gives, refusal, unlisted_type}
use Rattle.bsii_format.specs.Reader.{Consumed}
use Rattle.bsii_format.specs.Types.{shape_of}
use Rattle.bsii_format.specs.Prototypes.{ValuePrototype}
use Rattle.bsii_format.specs.Blocks.{DataValue}
use Rattle.bsii_format.specs.File.{BsiiFile, length_limit}
use Rattle.bsii_format.specs.Calls.{FieldAnswer, write_answer}
use Rattle.bsii_derived.specs.Index.{index_width, index_bytes_of}
use Rattle.bsii_derived.specs.IndexCalls.{write_index_call, check_index_call, index_field_call, defines_once_call}
use Rattle.bsii_widening.specs.Marks.{MarkedRecords, new_records, mark_records}
use Rattle.bsii_widening.specs.Insertions.{Insertion, a_field, insert, DefinitionAllowed, AllAllowed}
use Rattle.bsii_widening.specs.Parts.{renumber}
use Rattle.bsii_widening.specs.Claim.{widened, new_save, new_file, Room, first_carried}
use Rattle.bsii_widening.specs.Observers.{Old}

-- after the list: s is the old file, M the new file's records
pub record StillIndexed (w words : ℕ) (s : List ℕ) (f : BsiiFile) (r : List ℕ) (words' : ℕ) (M : MarkedRecords) : Type 0 where
  -- the index of the new save is written, with every space that has room,
  pub writes : (space : List ℕ) → length (index_bytes_of w (new_save f M)) ≤ length space → (write_index_call w words' (new_file f r M) space).reply ≡ gives (length (index_bytes_of w (new_save f M)))
  -- and with any space the whole answer is that of a file which has this index
  pub written : (space : List ℕ) → write_index_call w words' (new_file f r M) space ≡ write_answer length space (gives (index_bytes_of w (new_save f M)))
  -- it fits
  pub fits : check_index_call w words' (new_file f r M) (index_bytes_of w (new_save f M)) ≡ gives tt
  -- no id is defined twice, so it may stand in for the walk
  pub once : defines_once_call words' (new_file f r M) ≡ gives 1
  -- whatever is found in the old save by its checked index is found in the new one by its own, with the same type and bytes (blocks counted anew)
  pub found : (i i' : List ℕ) → check_index_call w words s i ≡ gives tt → check_index_call w words' (new_file f r M) i' ≡ gives tt
      → (k : ℕ) (name : List ℕ) (a : FieldAnswer) → index_field_call w s i k name ≡ gives a
      → (b : FieldAnswer) × (index_field_call w (new_file f r M) i' (renumber M k) name ≡ gives b) × (b.type_id ≡ a.type_id) × (b.bytes ≡ a.bytes)

-- after one last definition of an unlisted type: M is the file with it, and its first value starts at o
pub record IndexAfterLast (w words : ℕ) (s : List ℕ) (f : BsiiFile) (r : List ℕ) (words' : ℕ) (M : MarkedRecords) (o : Option ℕ) : Type 0 where
  -- write and check give 7 there,
  pub write_stops : (x : ℕ) → o ≡ some x → (space : List ℕ) → write_index_call w words' (new_file f r M) space ≡ record { reply = refusal unlisted_type x; needed = 0; output = space }
  pub check_stops : (x : ℕ) → o ≡ some x → (i : List ℕ) → check_index_call w words' (new_file f r M) i ≡ refusal unlisted_type x
  -- exactly if a block carries it; otherwise all of the above holds
  pub write_exactly : (space : List ℕ) (x : ℕ) → ((write_index_call w words' (new_file f r M) space).reply ≡ refusal unlisted_type x) ↔ (o ≡ some x)
  pub check_exactly : (i : List ℕ) (x : ℕ) → (check_index_call w words' (new_file f r M) i ≡ refusal unlisted_type x) ↔ (o ≡ some x)
  pub unused : o ≡ none → StillIndexed w words s f r words' M

abbrev pub IndexLastUnlisted : (w limit words : ℕ) (s : List ℕ) (f : BsiiFile) (r : List ℕ) (words' : ℕ) → MarkedRecords → Type 0
IndexLastUnlisted w limit words s f r words' M =
    (n p : ℕ) (d : Consumed ValuePrototype) (v : ℕ → DataValue) → DefinitionAllowed n p d M → shape_of f.header.value d.value.type_id ≡ none
    → Room limit words' f r (insert (a_field n p d v) M)
    → IndexAfterLast w words s f r words' (insert (a_field n p d v) M) (first_carried n p (length f.header.raw) (new_records (insert (a_field n p d v) M)))

-- for every list of insertions, the empty one included, through numbers of w bytes and up to new files of `limit` bytes
abbrev pub IndexedWithin : (w limit : ℕ) → Type 0
IndexedWithin w limit =
    (words : ℕ) (s : List ℕ) (f : BsiiFile) (at : ℕ) (r : List ℕ) → Old words s f at r
    → (l : List Insertion) → AllAllowed f.header.value l (mark_records f.records) → (words' : ℕ)
    → (Room limit words' f r (widened f l) → StillIndexed w words s f r words' (widened f l)) × IndexLastUnlisted w limit words s f r words' (widened f l)

-- "The file stays within the length limit", and is no longer than there are numbers of w bytes; the old file is no longer than the new one
abbrev pub IndexSurvives : Type 0
IndexSurvives = (w limit : ℕ) → limit ≤ length_limit → limit ≤ 256 ^ w → IndexedWithin w limit

-- at the calls' own width that is the length limit and nothing else
abbrev pub OwnIndexSurvives : Type 0
OwnIndexSurvives = IndexedWithin index_width length_limit
