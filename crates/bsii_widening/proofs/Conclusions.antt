-- What follows from demand 3, from the statement alone: each part of the claim by itself, so that a claim that says less is not enough for it.
use mathlib.Core.Path.{◌≡◌, ◌∙◌}
use Prim.Native.Nat.{ℕ, ◌+◌, ◌≤◌}
use mathlib.Core.Option.{Option, none, some}
use mathlib.Core.List.{List, ◌++◌}
use lib.ListN.{length, take, drop}
use Rattle.bsii_format.specs.Replies.{Fault, gives, refuses, refusal, unlisted_type, absent}
use Rattle.bsii_format.specs.Reader.{Consumed}
use Rattle.bsii_format.specs.Types.{shape_of}
use Rattle.bsii_format.specs.Prototypes.{ValuePrototype}
use Rattle.bsii_format.specs.Blocks.{DataValue}
use Rattle.bsii_format.specs.File.{BsiiFile, file_bytes, distinct_ids, prototypes_of, length_limit}
use Rattle.bsii_format.specs.Text.{value_text}
use Rattle.bsii_format.specs.Calls.{blocks_of, reading_of, reading_call, FieldAnswer, field_call, records_steps, steps_of, Converted, converted, text_call}
use Rattle.bsii_format.proofs.ReplyLaws.{write_fits}
use Rattle.bsii_widening.specs.Marks.{all, olds, new_records, old_records, mark_records}
use Rattle.bsii_widening.specs.Insertions.{Insertion, a_field, insert, DefinitionAllowed, AllAllowed}
use Rattle.bsii_widening.specs.Parts.{concat, text_parts, renumber}
use Rattle.bsii_widening.specs.Claim.{OldSave, widened, new_save, new_file, Room, StillConverts, first_carried, AfterLast, Demand3}

module _ (claim : Demand3) {words : ℕ} {s out : List ℕ} {f : BsiiFile} {at : ℕ} {r : List ℕ} {made : Converted} (o : OldSave words s out f at r made) (l : List Insertion) (a : AllAllowed f.header.value l (mark_records f.records)) (words' : ℕ) where
  -- the old save is the file in which nothing was inserted
  pub nothing_inserted : s ≡ new_file f r (mark_records f.records)
  nothing_inserted = (claim words s out f at r made o l a words').0

  module _ (m : Room length_limit words' f r (widened f l)) where
    still : StillConverts words s out f r made words' (widened f l)
    still = (claim words s out f at r made o l a words').1 m

    abbrev all_parts : List ℕ
    all_parts = concat (all (text_parts value_text (widened f l)))

    -- one for the end record, and those of the records in front of it
    abbrev all_steps : ℕ
    all_steps = records_steps (new_records (widened f l)) + 1

    -- the text call answers with a length and its steps,
    pub answers : (out' : List ℕ) → length all_parts ≤ length out' → (text_call words' (new_file f r (widened f l)) out').reply ≡ gives (record { size = length all_parts; steps = all_steps })
    unfolding steps_of
    answers = still.converts

    -- writes all parts, and leaves the bytes behind them
    pub writes : (out' : List ℕ) → length all_parts ≤ length out'
        → text_call words' (new_file f r (widened f l)) out' ≡ record { reply = gives (record { size = length all_parts; steps = all_steps }); needed = 0; output = all_parts ++ drop (length all_parts) out' }
    unfolding steps_of
    writes out' k = still.text out' ∙ write_fits (converted all_steps) out' all_parts k

    pub left : concat (olds (text_parts value_text (widened f l))) ≡ take made.size (text_call words s out).output
    left = still.left_out

    pub unmarked : old_records (widened f l) ≡ f.records
    unmarked = still.anchored

    pub finds : (k : ℕ) (name : List ℕ) (v : FieldAnswer) → field_call words s k name ≡ gives v
        → (b : FieldAnswer) × (field_call words' (new_file f r (widened f l)) (renumber (widened f l) k) name ≡ gives b) × (b.type_id ≡ v.type_id) × (b.bytes ≡ v.bytes)
    finds = still.found

    pub reads : reading_call words' (new_file f r (widened f l)) ≡ gives (record {
      prototypes = distinct_ids (prototypes_of (new_records (widened f l)));
      blocks = length (blocks_of (new_save f (widened f l)));
      next = length (file_bytes (new_save f (widened f l)));
    })
    unfolding reading_of
    reads = still.reading

    pub absent_at_most : (k : ℕ) (name : List ℕ) (x : Fault) → field_call words' (new_file f r (widened f l)) k name ≡ refuses x → field_call words' (new_file f r (widened f l)) k name ≡ refusal absent 0
    absent_at_most = still.field

  -- ---- the last definition

  module _ (n p : ℕ) (d : Consumed ValuePrototype) (v : ℕ → DataValue) (b : DefinitionAllowed n p d (widened f l)) (u : shape_of f.header.value d.value.type_id ≡ none)
      (m : Room length_limit words' f r (insert (a_field n p d v) (widened f l))) where
    abbrev first : Option ℕ
    first = first_carried n p (length f.header.raw) (new_records (insert (a_field n p d v) (widened f l)))

    last : AfterLast words s out f r made words' (insert (a_field n p d v) (widened f l)) first
    last = (claim words s out f at r made o l a words').2 n p d v b u m

    pub reading_stops : (x : ℕ) → first ≡ some x → reading_call words' (new_file f r (insert (a_field n p d v) (widened f l))) ≡ refusal unlisted_type x
    reading_stops x e = (last.carried x e).reading

    pub field_stops : (x : ℕ) → first ≡ some x → (k : ℕ) (name : List ℕ) → field_call words' (new_file f r (insert (a_field n p d v) (widened f l))) k name ≡ refusal unlisted_type x
    field_stops x e = (last.carried x e).field

    pub text_stops : (x : ℕ) → first ≡ some x → (out' : List ℕ)
        → text_call words' (new_file f r (insert (a_field n p d v) (widened f l))) out' ≡ record { reply = refusal unlisted_type x; needed = 0; output = out' }
    text_stops x e = (last.carried x e).text

    -- if no block carries it, all of the above holds; and 7 means that a block does
    pub unused_converts : first ≡ none → StillConverts words s out f r made words' (insert (a_field n p d v) (widened f l))
    unused_converts = last.unused

    pub reading_means : (x : ℕ) → reading_call words' (new_file f r (insert (a_field n p d v) (widened f l))) ≡ refusal unlisted_type x → first ≡ some x
    reading_means x e = (last.exactly.reading x).0 e

    pub field_means : (k : ℕ) (name : List ℕ) (x : ℕ) → field_call words' (new_file f r (insert (a_field n p d v) (widened f l))) k name ≡ refusal unlisted_type x → first ≡ some x
    field_means k name x e = (last.exactly.field k name x).0 e

    pub text_means : (out' : List ℕ) (x : ℕ) → (text_call words' (new_file f r (insert (a_field n p d v) (widened f l))) out').reply ≡ refusal unlisted_type x → first ≡ some x
    text_means out' x e = (last.exactly.text out' x).0 e
