-- Demand 3 for any call that reads the whole file first. Such a call is `of_file answer (parse words s)`: what it makes of the file and of the offset
-- behind its end record, or the file's first fault. So a claim about it is one about `answer`, and all claims share what the insertions do to the file.
use Rattle.std.specs.Prelude.{◌≡◌, ℕ, ◌+◌, List, length}
use Rattle.std.proofs.Math.Option.{Option, none, some}
use Rattle.bsii_format.specs.Replies.{Reply, gives, refusal, unlisted_type}
use Rattle.bsii_format.specs.Reader.{ok, Consumed}
use Rattle.bsii_format.specs.Types.{shape_of}
use Rattle.bsii_format.specs.Values.{Value}
use Rattle.bsii_format.specs.Prototypes.{ValuePrototype}
use Rattle.bsii_format.specs.Blocks.{DataValue}
use Rattle.bsii_format.specs.File.{BsiiFile, length_limit, parse}
use Rattle.bsii_format.specs.BlockText.{every_block, file_text}
use Rattle.bsii_format.specs.Calls.{of_file, reading_of, or_absent, field_of}
use Rattle.bsii_widening.specs.Marks.{MarkedRecords, new_records, mark_records}
use Rattle.bsii_widening.specs.Insertions.{Insertion, a_field, insert, DefinitionAllowed, AllAllowed, NoIdTwice}
use Rattle.bsii_widening.specs.Parts.{renumber, inserted_prototypes, inserted_blocks}
use Rattle.bsii_widening.specs.Claim.{widened, new_file, new_text, left_text, Room, first_carried}

abbrev pub Observer : Type 0 → Type 0
Observer A = BsiiFile → ℕ → Reply A

-- a save that is read, "and defines no prototype id twice"; whether it has a text is a matter of the text call alone
pub record Old (words : ℕ) (s : List ℕ) (f : BsiiFile) (at : ℕ) (r : List ℕ) : Type 0 where
  pub reads : parse words s ≡ ok f at r
  pub once : NoIdTwice f.records

-- What `before` answers for the old save, `after` answers for the new one, up to what `Keeps` says of the two answers. `Meets` is what the claim asks of
-- the list beyond what is allowed
abbrev pub Survives : {A : Type 0} → Observer A → (MarkedRecords → Observer A) → (BsiiFile → List Insertion → Type 0) → (MarkedRecords → A → A → Type 0) → Type 0
Survives {A} before after Meets Keeps =
    (words : ℕ) (s : List ℕ) (f : BsiiFile) (at : ℕ) (r : List ℕ) → Old words s f at r → (a : A) → before f at ≡ gives a
    → (l : List Insertion) → AllAllowed f.header.value l (mark_records f.records) → Meets f l → (words' : ℕ) → Room length_limit words' f r (widened f l)
    → (b : A) × (of_file (after (widened f l)) (parse words' (new_file f r (widened f l))) ≡ gives b) × Keeps (widened f l) a b

-- after one last definition of an unlisted type that a block carries, the call gives 7 at the first such value
abbrev pub Stops : {A : Type 0} → Observer A → Type 0
Stops answer =
    (words : ℕ) (s : List ℕ) (f : BsiiFile) (at : ℕ) (r : List ℕ) → Old words s f at r → (l : List Insertion)
    → AllAllowed f.header.value l (mark_records f.records) → (words' : ℕ)
    → (n p : ℕ) (d : Consumed ValuePrototype) (v : ℕ → DataValue) → DefinitionAllowed n p d (widened f l)
    → shape_of f.header.value d.value.type_id ≡ none → Room length_limit words' f r (insert (a_field n p d v) (widened f l)) → (x : ℕ)
    → first_carried n p (length f.header.raw) (new_records (insert (a_field n p d v) (widened f l))) ≡ some x
    → of_file answer (parse words' (new_file f r (insert (a_field n p d v) (widened f l)))) ≡ refusal unlisted_type x

-- ---- the calls

abbrev pub Always : BsiiFile → List Insertion → Type 0
Always f l = Unit {0}

-- the text in any form: the new one is all parts, the old one what is left of them
abbrev pub TextSurvives : (ValuePrototype → Value → Option (List ℕ)) → Type 0
TextSurvives text = Survives (λ f at. file_text text every_block f) (λ M f at. file_text text every_block f) Always (λ M a b. (b ≡ new_text text M) × (a ≡ left_text text M))

-- the field call, at the block's new number: the same type and bytes
abbrev pub FieldSurvives : Type 0
FieldSurvives =
    (k : ℕ) (name : List ℕ)
    → Survives (λ f at. or_absent (field_of k name f)) (λ M f at. or_absent (field_of (renumber M k) name f)) Always (λ M a b. (b.type_id ≡ a.type_id) × (b.bytes ≡ a.bytes))

-- the reading call: an inserted prototype or block counts one more
abbrev pub ReadingSurvives : Type 0
ReadingSurvives =
    Survives (λ f at. gives (reading_of f at)) (λ M f at. gives (reading_of f at)) Always
    (λ M a b. (b.prototypes ≡ a.prototypes + inserted_prototypes M) × (b.blocks ≡ a.blocks + inserted_blocks M))
