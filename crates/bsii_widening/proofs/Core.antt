-- What every claim of demand 3 starts from: after an allowed list the new file is read as the marked records say, and after one more definition of an
-- unlisted type that a block carries it is not. A save that is read is sound for the silent text, each insertion keeps that, and what is sound is read.
use mathlib.Core.Path.{◌≡◌, refl, sym, ◌∙◌, subst}
use Prim.Native.Nat.{ℕ, ◌/◌, ◌≤◌}
use mathlib.Core.Option.{Option, none, some}
use mathlib.Core.List.{List, []}
use lib.ListN.{length}
use Rattle.bsii_format.specs.Reader.{ok, fault_at, Consumed}
use Rattle.bsii_format.specs.Replies.{gives, unlisted_type}
use Rattle.bsii_format.specs.Types.{shape_of}
use Rattle.bsii_format.specs.Values.{Value}
use Rattle.bsii_format.specs.Prototypes.{ValuePrototype, Prototype}
use Rattle.bsii_format.specs.Blocks.{DataValue}
use Rattle.bsii_format.specs.File.{BsiiFile, prototypes_of, file_bytes, length_limit, parse}
use Rattle.bsii_format.specs.BlockText.{every_block, file_text}
use Rattle.bsii_format.proofs.ReplyLaws.{of_fault}
use Rattle.bsii_format.proofs.File.{FileTaken, file_good, parse_ok, parse_short, parse_fits}
use Rattle.bsii_widening.specs.Marks.{MarkedRecords, new_records, old_records, mark_records}
use Rattle.bsii_widening.specs.Insertions.{Insertion, a_field, insert, insert_all, DefinitionAllowed, AllAllowed, NoIdTwice}
use Rattle.bsii_widening.specs.Parts.{marked_prototypes}
use Rattle.bsii_widening.specs.Claim.{widened, new_save, new_file, Room, first_carried}
use Rattle.bsii_widening.specs.Observers.{Observer, Old, Stops}
use Rattle.bsii_widening.proofs.Marks.{new_mark_records, old_widened}
use Rattle.bsii_widening.proofs.Says.{HasText}
use Rattle.bsii_widening.proofs.Environments.{widens_nil}
use Rattle.bsii_widening.proofs.Invariant.{Sound, inv_good, good_field, its_definition, sound_all}
use Rattle.bsii_widening.proofs.Once.{once_all}
use Rattle.bsii_widening.proofs.Start.{text_sound, silent, silent_has, read_sound}
use Rattle.bsii_widening.proofs.Unlisted.{file_stops}

-- the new file is read, its records are in order, and without the inserted parts they are the old ones
pub record Widened (words : ℕ) (f : BsiiFile) (r : List ℕ) (M : MarkedRecords) : Type 0 where
  pub reads : parse words (new_file f r M) ≡ ok (new_save f M) (length (file_bytes (new_save f M))) r
  pub sound : Sound f.header.value silent M
  pub before : old_records M ≡ f.records

module _ {words : ℕ} {s : List ℕ} {f : BsiiFile} {at : ℕ} {r : List ℕ} (o : Old words s f at r) where
  pub taken : FileTaken (words / 3) f s at r
  taken = file_good (words / 3) s f at r (parse_ok words s o.reads).1

  once : NoIdTwice (new_records (mark_records f.records))
  once = subst NoIdTwice (sym (new_mark_records f.records)) o.once

  module _ (l : List Insertion) (allowed : AllAllowed f.header.value l (mark_records f.records)) where
    silent_sound : Sound f.header.value silent (insert_all l (mark_records f.records))
    silent_sound = sound_all f.header.value silent silent_has l (mark_records f.records) allowed once (read_sound f.records taken.good.records o.once)

    pub once_widened : NoIdTwice (new_records (widened f l))
    unfolding widened
    once_widened = once_all f.header.value l (mark_records f.records) allowed once

    -- for the text of a call that answered
    pub widened_sound : (text : ValuePrototype → Value → Option (List ℕ)) → HasText text → {t : List ℕ} → file_text text every_block f ≡ gives t → Sound f.header.value text (widened f l)
    unfolding widened
    widened_sound text has e = sound_all f.header.value text has l (mark_records f.records) allowed once (text_sound text f taken.good.records e)

    pub widens : {words' : ℕ} → Room length_limit words' f r (widened f l) → Widened words' f r (widened f l)
    unfolding widened new_file prototypes_of
    widens {words'} m = record {
      reads = parse_fits words' (new_save f (insert_all l (mark_records f.records))) r
          (record { header = taken.good.header; records = inv_good f.header.value silent silent_sound; roomed = m.table; last = taken.good.last }) m.file;
      sound = silent_sound;
      before = old_widened l f.records;
    }

    stopped : (words' n p : ℕ) (d : Consumed ValuePrototype) (v : ℕ → DataValue) → DefinitionAllowed n p d (widened f l) → shape_of f.header.value d.value.type_id ≡ none
        → Room length_limit words' f r (insert (a_field n p d v) (widened f l)) → (x : ℕ)
        → first_carried n p (length f.header.raw) (new_records (insert (a_field n p d v) (widened f l))) ≡ some x
        → parse words' (new_file f r (insert (a_field n p d v) (widened f l))) ≡ fault_at unlisted_type x
    unfolding insert new_file prototypes_of widened
    stopped words' n p d v a u m x e =
        let M = insert_all l (mark_records f.records) in
        parse_short words' (new_file f r (insert (a_field n p d v) M)) m.file
        ∙ file_stops f.header.value silent (words' / 3) n p d v (marked_prototypes M []) (good_field d a.well_formed) u (λ k e. subst (λ (q : Prototype). p ≤ length q.fields) (its_definition a e) a.position)
        (new_save f (insert (a_field n p d v) M)) r x {M = M} taken.good.header refl refl (widens_nil n p d) silent_sound m.table e

-- every call that reads the whole file first, at once
pub all_stop : {A : Type 0} (answer : Observer A) → Stops answer
all_stop answer words s f at r o l allowed words' n p d v a u m x e =
    of_fault answer (parse words' (new_file f r (insert (a_field n p d v) (widened f l)))) (stopped o l allowed words' n p d v a u m x e)
