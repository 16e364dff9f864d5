-- Demand 3: the claim of specs/Claim.antt, put together. A last definition that no block carries is allowed, so it makes the list longer by one; one that
-- a block carries stops every call.
use mathlib.Core.Path.{◌≡◌, refl, sym, ap, ◌∙◌, subst}
use Prim.Native.Nat.{ℕ}
use mathlib.Core.Option.{Option, none, some}
use mathlib.Core.List.{List, [], ◌∷◌, ◌++◌}
use lib.ListN.{length, take, drop}
use lib.Seq.{take-append_seam}
use Rattle.bsii_format.specs.Replies.{Fault, Reply, gives, refuses, refusal, absent, unlisted_type}
use Rattle.bsii_format.specs.File.{BsiiFile, file_bytes, length_limit, parse}
use Rattle.bsii_format.specs.Text.{value_text}
use Rattle.bsii_format.specs.BlockText.{or_refuse, every_block, file_text}
use Rattle.bsii_format.specs.Calls.{of_file, or_absent, reading_of, reading_call, field_of, field_call, steps_of, write_answer, Converted, converted, text_of, TextAnswer, text_answer, text_call}
use Rattle.bsii_format.proofs.ReplyLaws.{gives_inj, refuses≢gives, of_read, text_read, write_cases, write_fits}
use Rattle.bsii_widening.specs.Marks.{MarkedRecords, new_records, mark_records}
use Rattle.bsii_widening.specs.Insertions.{Insertion, a_field, insert, insert_all, Allowed, AllAllowed}
use Rattle.bsii_widening.specs.Claim.{OldSave, widened, new_save, new_file, new_text, Room, StillConverts, first_carried, Refused, LastUnlisted, Demand3}
use Rattle.bsii_widening.specs.Observers.{Observer, Old}
use Rattle.bsii_widening.proofs.Marks.{new_mark_records}
use Rattle.bsii_widening.proofs.Says.{value_says}
use Rattle.bsii_widening.proofs.Unlisted.{no_values}
use Rattle.bsii_widening.proofs.Core.{taken, widens, all_stop}
use Rattle.bsii_widening.proofs.Survives.{text_survives, field_survives}
use Rattle.bsii_widening.proofs.Exactly.{exactly_when}

-- ---- the text call's answer

-- a text call that answers has a text, of the length that it tells, in front of the output
record Wrote (steps : ℕ) (out : List ℕ) (q : Reply (List ℕ)) (made : Converted) : Type 0 where
  pub text : List ℕ
  pub is : q ≡ gives text
  pub front : take made.size (text_answer steps out q).output ≡ text

wrote : (steps : ℕ) (out : List ℕ) (q : Reply (List ℕ)) (made : Converted) → (text_answer steps out q).reply ≡ gives made → Wrote steps out q made
unfolding write_answer
wrote steps out (gives t) made e = record {
  text = t;
  is = refl;
  front = write_cases (converted steps) out t (λ a. a.reply ≡ gives made → take made.size a.output ≡ t)
      (λ e. ap (λ (c : Converted). take c.size (t ++ drop (length t) out)) (sym (gives_inj e)) ∙ take-append_seam t (drop (length t) out)) (λ e. refuses≢gives e) e;
}
wrote steps out (refuses f) made e = refuses≢gives e

-- ---- after a list

absent_only : {A : Type 0} (o : Option A) {x : Fault} (q : Reply A) → q ≡ or_refuse absent 0 o → q ≡ refuses x → q ≡ refusal absent 0
unfolding or_refuse
absent_only none q e z = e
absent_only (some a) q e z = refuses≢gives (sym z ∙ e)

module _ {words : ℕ} {s out : List ℕ} {f : BsiiFile} {at : ℕ} {r : List ℕ} {made : Converted} (o : OldSave words s out f at r made) where
  old : Old words s f at r
  old = record { reads = o.reads; once = o.once }

  had : Wrote (steps_of f) out (file_text value_text every_block f) made
  had = wrote (steps_of f) out (file_text value_text every_block f) made (ap (λ (z : TextAnswer). z.reply) (sym (text_read words s o.reads out)) ∙ o.converts)

  still_converts : (l : List Insertion) → AllAllowed f.header.value l (mark_records f.records) → (words' : ℕ) → Room length_limit words' f r (widened f l)
      → StillConverts words s out f r made words' (widened f l)
  unfolding reading_call field_call
  still_converts l a words' m =
      let M = widened f l in
      let read = (widens old l a m).reads in
      let t = text_survives value_text value_says words s f at r old had.text had.is l a tt words' m in
      let whole : file_text value_text every_block (new_save f M) ≡ gives (new_text value_text M) = sym (of_read _ (parse words' (new_file f r M)) read) ∙ t.1 ∙ ap gives t.2.0 in
      let text : (out' : List ℕ) → text_call words' (new_file f r M) out' ≡ text_answer (steps_of (new_save f M)) out' (gives (new_text value_text M)) =
      λ out'. text_read words' (new_file f r M) read out' ∙ ap (text_answer (steps_of (new_save f M)) out') whole in
      record {
        converts = λ out' k. ap (λ (z : TextAnswer). z.reply) (text out' ∙ write_fits (converted (steps_of (new_save f M))) out' (new_text value_text M) k);
        text = text;
        found = λ k name a' e.
            let b = field_survives k name words s f at r old a' (sym (of_read (λ f at. or_absent (field_of k name f)) (parse words s) o.reads) ∙ e) l a tt words' m in
            (b.0, b.1, b.2.0, b.2.1);
        left_out = sym t.2.1 ∙ sym had.front ∙ ap (λ (z : TextAnswer). take made.size z.output) (sym (text_read words s o.reads out));
        anchored = (widens old l a m).before;
        reading = of_read (λ f at. gives (reading_of f at)) (parse words' (new_file f r M)) read;
        field = λ k name x e. absent_only (field_of k name (new_save f M)) (field_call words' (new_file f r M) k name) (of_read (λ f at. or_absent (field_of k name f)) (parse words' (new_file f r M)) read) e;
      }

-- ---- after the last definition

pub one_more : (l : List Insertion) (i : Insertion) (M : MarkedRecords) → insert_all (l ++ (i ∷ [])) M ≡ insert i (insert_all l M)
unfolding insert_all
one_more [] i M = refl
one_more (j ∷ l) i M = one_more l i (insert j M)

pub one_more_allowed : (version : ℕ) (l : List Insertion) (i : Insertion) (M : MarkedRecords) → AllAllowed version l M → Allowed version i (insert_all l M)
    → AllAllowed version (l ++ (i ∷ [])) M
unfolding insert_all
one_more_allowed version [] i M a b = (b, tt)
one_more_allowed version (j ∷ l) i M a b = (a.0, one_more_allowed version l i (insert j M) a.1 b)

module _ {words : ℕ} {s out : List ℕ} {f : BsiiFile} {at : ℕ} {r : List ℕ} {made : Converted} (o : OldSave words s out f at r made) (l : List Insertion) (a : AllAllowed f.header.value l (mark_records f.records)) (words' : ℕ) where
  last_unlisted : LastUnlisted words s out f r made words' (widened f l)
  unfolding reading_call field_call text_call text_of write_answer
  last_unlisted n p d v b u m = record { carried = refused; unused = unused; exactly = exactly_when M (first_carried n p (length f.header.raw) (new_records M)) refused unused }
    where
      M : MarkedRecords
      M = insert (a_field n p d v) (widened f l)

      stop : {A : Type 0} (answer : Observer A) (x : ℕ) → first_carried n p (length f.header.raw) (new_records M) ≡ some x → of_file answer (parse words' (new_file f r M)) ≡ refusal unlisted_type x
      stop answer x e = all_stop answer words s f at r (old o) l a words' n p d v b u m x e

      refused : (x : ℕ) → first_carried n p (length f.header.raw) (new_records M) ≡ some x → Refused words' x (new_file f r M)
      refused x e = record {
        reading = stop (λ f at. gives (reading_of f at)) x e;
        field = λ k name. stop (λ f at. or_absent (field_of k name f)) x e;
        text = λ out. ap (write_answer (converted _) out) (stop (λ f at. file_text value_text every_block f) x e);
      }

      longer : widened f (l ++ (a_field n p d v ∷ [])) ≡ M
      longer = unfold widened in one_more l (a_field n p d v) (mark_records f.records)

      unused : first_carried n p (length f.header.raw) (new_records M) ≡ none → StillConverts words s out f r made words' M
      unused e =
          subst (StillConverts words s out f r made words') longer
          (still_converts o (l ++ (a_field n p d v ∷ []))
          (one_more_allowed f.header.value l (a_field n p d v) (mark_records f.records) a (record { definition = unfold widened in b; values = unfold widened insert in no_values f.header.value n p d v 0 (length f.header.raw) (widened f l) e }))
          words' (subst (Room length_limit words' f r) (sym longer) m))

pub demand3 : Demand3
unfolding new_file
demand3 words s out f at r made o l a words' = (
  (taken (old o)).front ∙ ap (λ z. file_bytes (record { header = f.header; records = z; end = f.end }) ++ r) (sym (new_mark_records f.records)),
  still_converts o l a words',
  last_unlisted o l a words',
)
