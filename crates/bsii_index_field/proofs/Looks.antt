-- The look-up's answers, by what was read.
use mathlib.Core.Path.{◌≡◌, sym, ap, ◌∙◌}
use Prim.Native.Nat.{ℕ, ◌≤◌, ◌<◌}
use mathlib.Core.List.{List}
use lib.ListN.{length, drop}
use borrow.Author.Tests.{le-leb, lt-leb}
use Rattle.bsii_format.specs.Replies.{input_long, absent}
use Rattle.bsii_format.specs.Reader.{ok, fault}
use Rattle.bsii_format.specs.Numbers.{number}
use Rattle.bsii_format.specs.Prototypes.{fields_parser}
use Rattle.bsii_format.specs.File.{length_limit}
use Rattle.bsii_string.specs.Answers.{fault_is, refused_at}
use Rattle.bsii_string.specs.declared.answers.Refusal.{Refusal}
use Rattle.bsii_string.proofs.Ends.{next_ok, fault_at_law}
use Rattle.bsii_file_field.specs.declared.answers.Field.{Field}
use Rattle.bsii_index_record.specs.Records.{found_is}
use Rattle.bsii_index_record.specs.declared.IndexRecord.{IndexRecord}
use Rattle.bsii_derived.specs.Index.{record_at}
use Rattle.bsii_derived.specs.IndexCalls.{answering, field_by, index_field_call}
use Rattle.bsii_index_field.specs.Looks.{PrototypeRead, block_head, HeadRead, FieldRead, Looked, LookedUp}
use Rattle.bsii_index_field.specs.declared.prototypes.Prototype.{Prototype}
use Rattle.std.specs.Prelude.{Ok, Err, Result as Outcome, Some, None, Option as Answer}
use Rattle.bsii_index_field.proofs.Definitions.{stands, unstood}
use Rattle.bsii_index_field.proofs.BlockHeads.{block_head_exact, block_cut, block_values}

-- ---- at the record's offsets

module _ {version : ℕ} {s : List ℕ} {at o : ℕ} where
  pub look_unread : {name : List ℕ} {f : Refusal} → PrototypeRead s o at (Err f) → Looked version s at o name (Err f)
  unfolding answering
  look_unread h = record { reply = sym (rw (unstood h)); inside = λ f z. cc }

  module _ {q : Prototype} (h : PrototypeRead s o at (Ok q)) where
    pub look_bad : {name : List ℕ} {f : Refusal} → HeadRead s at q.id (Err f) → Looked version s at o name (Err f)
    unfolding answering
    look_bad w =
        let x = stands h in
        let e = fault_at_law (block_head x.p at (drop at s)) (w.ends x.p x.id_is) in
        record { reply = sym (rw (x.reads, block_cut version x.p s at e)); inside = λ f z. cc }

    pub look_read : {start : ℕ} → HeadRead s at q.id (Ok start) → {name : List ℕ} {r : Outcome Field Refusal} → FieldRead version s q.fields start name r → Looked version s at o name r
    unfolding answering
    look_read w {name} v =
        let x = stands h in
        let e = next_ok (block_head_exact x.p) s at (w.ends x.p x.id_is) in
        record {
          reply = v.reply _ _ _ (ap (λ (n : ℕ). fields_parser n (drop n s)) (sym x.fields_at) ∙ x.defined.list)
              ∙ sym (rw x.reads (block_values version x.p s at name e.1));
          inside = v.inside;
        }

-- ---- by the index

by_record : (w : ℕ) (s i : List ℕ) (k : ℕ) (name : List ℕ) (r : Answer IndexRecord) → length s ≤ length_limit → found_is r ≡ record_at w i k
    → index_field_call w s i k name ≡ field_by s name (found_is r)
unfolding index_field_call
by_record w s i k name r h e = rw (le-leb (length s) length_limit h) (ap (field_by s name) (sym e))

module _ {w : ℕ} {s i : List ℕ} {k : ℕ} {name : List ℕ} where
  pub look_long : length_limit < length s → LookedUp w s i k name (Err (refused_at input_long 0))
  unfolding index_field_call
  look_long h = record { reply = sym (rw (lt-leb (length s) length_limit h)); inside = λ f z. cc }

  module _ (h : length s ≤ length_limit) where
    pub look_absent : found_is None ≡ record_at w i k → LookedUp w s i k name (Err (refused_at absent 0))
    unfolding field_by
    look_absent e = record { reply = sym (by_record w s i k name None h e); inside = λ f z. cc }

    module _ {q : IndexRecord} (e : found_is (Some q) ≡ record_at w i k) where
      pub look_short : {f : Refusal} → number 4 4 (drop 4 s) ≡ fault (fault_is f) → LookedUp w s i k name (Err f)
      unfolding field_by answering
      look_short v = record { reply = sym (by_record w s i k name (Some q) h e ∙ rw v); inside = λ f z. cc }

      pub looked : {version n : ℕ} → number 4 4 (drop 4 s) ≡ ok version n (drop n s) → {r : Outcome Field Refusal} → Looked version s q.offset q.prototype name r
          → LookedUp w s i k name r
      unfolding field_by answering
      looked v l = record { reply = l.reply ∙ sym (by_record w s i k name (Some q) h e ∙ rw v); inside = l.inside }
