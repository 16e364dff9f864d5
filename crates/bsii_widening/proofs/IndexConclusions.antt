-- What follows from the claim about the index, from the statement alone: each part by itself, so that a claim that says less, or of fewer saves, is not
-- enough for it.
use mathlib.Core.Path.{◌≡◌, ◌∙◌}
use Prim.Native.Nat.{ℕ, ◌^◌, ◌≤◌}
use native.Mathlib.Omega.{arith}
use mathlib.Core.Option.{Option, none, some}
use mathlib.Core.List.{List, ◌++◌}
use lib.ListN.{length, drop}
use Rattle.bsii_format.specs.Replies.{gives, refusal, unlisted_type}
use Rattle.bsii_format.specs.Reader.{ok, Consumed}
use Rattle.bsii_format.specs.Types.{shape_of}
use Rattle.bsii_format.specs.Prototypes.{ValuePrototype}
use Rattle.bsii_format.specs.Blocks.{DataValue}
use Rattle.bsii_format.specs.File.{BsiiFile, length_limit, parse}
use Rattle.bsii_format.specs.Calls.{FieldAnswer}
use Rattle.bsii_format.proofs.ReplyLaws.{write_fits}
use Rattle.bsii_derived.specs.Index.{index_bytes, index_of}
use Rattle.bsii_derived.specs.IndexCalls.{write_index_call, check_index_call, index_field_call, defines_once_call}
use Rattle.bsii_widening.specs.Marks.{new_records, mark_records}
use Rattle.bsii_widening.specs.Insertions.{Insertion, a_field, insert, DefinitionAllowed, AllAllowed, NoIdTwice}
use Rattle.bsii_widening.specs.Parts.{renumber}
use Rattle.bsii_widening.specs.Claim.{widened, new_save, new_file, Room, first_carried}
use Rattle.bsii_widening.specs.Observers.{Old}
use Rattle.bsii_widening.specs.Indexed.{StillIndexed, IndexAfterLast, IndexSurvives, OwnIndexSurvives}

-- any save that is read and defines no id twice
any_read : {words : ℕ} {s : List ℕ} {f : BsiiFile} {at : ℕ} {r : List ℕ} → parse words s ≡ ok f at r → NoIdTwice f.records → Old words s f at r
any_read reads once = record { reads = reads; once = once }

module _ (claim : IndexSurvives) (w words : ℕ) (s : List ℕ) (f : BsiiFile) (at : ℕ) (r : List ℕ) (reads : parse words s ≡ ok f at r) (once : NoIdTwice f.records) (l : List Insertion) (a : AllAllowed f.header.value l (mark_records f.records)) (words' : ℕ) where
  module _ (m : Room length_limit words' f r (widened f l)) (held : length (new_file f r (widened f l)) ≤ 256 ^ w) where
    still : StillIndexed w words s f r words' (widened f l)
    still = (claim w (length (new_file f r (widened f l))) m.file held words s f at r (any_read reads once) l a words').0 (record { file = omega arith; table = m.table })

    abbrev index : List ℕ
    index = index_bytes w (index_of (new_save f (widened f l)))

    pub answers : (space : List ℕ) → length index ≤ length space → (write_index_call w words' (new_file f r (widened f l)) space).reply ≡ gives (length index)
    answers = still.writes

    pub writes : (space : List ℕ) → length index ≤ length space
        → write_index_call w words' (new_file f r (widened f l)) space ≡ record { reply = gives (length index); needed = 0; output = index ++ drop (length index) space }
    writes space k = still.written space ∙ write_fits length space index k

    pub its_own_fits : check_index_call w words' (new_file f r (widened f l)) index ≡ gives tt
    its_own_fits = still.fits

    pub stands_in : defines_once_call words' (new_file f r (widened f l)) ≡ gives 1
    stands_in = still.once

    pub finds : (i i' : List ℕ) → check_index_call w words s i ≡ gives tt → check_index_call w words' (new_file f r (widened f l)) i' ≡ gives tt
        → (k : ℕ) (name : List ℕ) (v : FieldAnswer) → index_field_call w s i k name ≡ gives v
        → (b : FieldAnswer) × (index_field_call w (new_file f r (widened f l)) i' (renumber (widened f l) k) name ≡ gives b) × (b.type_id ≡ v.type_id) × (b.bytes ≡ v.bytes)
    finds = still.found

  -- ---- the last definition

  module _ (n p : ℕ) (d : Consumed ValuePrototype) (v : ℕ → DataValue) (b : DefinitionAllowed n p d (widened f l)) (u : shape_of f.header.value d.value.type_id ≡ none)
      (m : Room length_limit words' f r (insert (a_field n p d v) (widened f l))) (held : length (new_file f r (insert (a_field n p d v) (widened f l))) ≤ 256 ^ w) where
    abbrev first : Option ℕ
    first = first_carried n p (length f.header.raw) (new_records (insert (a_field n p d v) (widened f l)))

    last : IndexAfterLast w words s f r words' (insert (a_field n p d v) (widened f l)) first
    last =
        (claim w (length (new_file f r (insert (a_field n p d v) (widened f l)))) m.file held words s f at r (any_read reads once) l a words').1 n p d v b u
        (record { file = omega arith; table = m.table })

    pub write_stops_law : (x : ℕ) → first ≡ some x → (space : List ℕ)
        → write_index_call w words' (new_file f r (insert (a_field n p d v) (widened f l))) space ≡ record { reply = refusal unlisted_type x; needed = 0; output = space }
    write_stops_law x e space = last.write_stops x e space

    pub check_stops_law : (x : ℕ) → first ≡ some x → (i : List ℕ) → check_index_call w words' (new_file f r (insert (a_field n p d v) (widened f l))) i ≡ refusal unlisted_type x
    check_stops_law = last.check_stops

    pub write_means : (space : List ℕ) (x : ℕ) → (write_index_call w words' (new_file f r (insert (a_field n p d v) (widened f l))) space).reply ≡ refusal unlisted_type x → first ≡ some x
    write_means space x e = (last.write_exactly space x).0 e

    pub check_means : (i : List ℕ) (x : ℕ) → check_index_call w words' (new_file f r (insert (a_field n p d v) (widened f l))) i ≡ refusal unlisted_type x → first ≡ some x
    check_means i x e = (last.check_exactly i x).0 e

    pub unused_indexed : first ≡ none → StillIndexed w words s f r words' (insert (a_field n p d v) (widened f l))
    unused_indexed = last.unused

-- ---- with three bytes, within the length limit

module _ (claim : OwnIndexSurvives) (words : ℕ) (s : List ℕ) (f : BsiiFile) (at : ℕ) (r : List ℕ) (reads : parse words s ≡ ok f at r) (once : NoIdTwice f.records) (l : List Insertion) (a : AllAllowed f.header.value l (mark_records f.records)) (words' : ℕ) where
  pub by_three : Room 16_777_216 words' f r (widened f l) → StillIndexed 3 words s f r words' (widened f l)
  by_three m = (claim words s f at r (any_read reads once) l a words').0 m

  pub last_by_three : (n p : ℕ) (d : Consumed ValuePrototype) (v : ℕ → DataValue) → DefinitionAllowed n p d (widened f l) → shape_of f.header.value d.value.type_id ≡ none
      → Room 16_777_216 words' f r (insert (a_field n p d v) (widened f l))
      → IndexAfterLast 3 words s f r words' (insert (a_field n p d v) (widened f l)) (first_carried n p (length f.header.raw) (new_records (insert (a_field n p d v) (widened f l))))
  last_by_three n p d v b u m = (claim words s f at r (any_read reads once) l a words').1 n p d v b u m
