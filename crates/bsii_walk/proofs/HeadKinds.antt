-- How a record begins, for a head that was accepted.
use mathlib.Core.Path.{◌≡◌, refl, sym, ap, ap₂, ◌∙◌}
use Prim.Native.Nat.{ℕ, zero, suc}
use mathlib.Core.Bool.{cond}
use mathlib.Core.List.{List}
use lib.ListN.{drop}
use lib.Dec.{leb, eqb}
use borrow.Author.Tests.{eq-eqb, ne_eqb}
use Rattle.bsii_format.specs.Replies.{bad_mark}
use Rattle.bsii_format.specs.Reader.{ok, fault, after, ◌>>=◌, success, verify}
use Rattle.bsii_format.specs.Numbers.{number, le_u8}
use Rattle.bsii_format.specs.Strings.{str_parser}
use Rattle.bsii_format.specs.File.{Head, defining, carrying, mark_parser, head_parser}
use Rattle.bsii_format.proofs.Readers.{fault≢ok, ok_val, ok_at, ok_rest, after_ok, cond_ok}
use Rattle.bsii_format.proofs.Parsers.{number_exact}
use Rattle.bsii_format.proofs.Positions.{moved}
use Rattle.bsii_string.specs.Answers.{fault_is, num_of}
use Rattle.bsii_string.specs.declared.answers.Refusal.{Refusal}
use Rattle.bsii_prototype.specs.Entries.{marked_parser}
use Rattle.bsii_walk.specs.Again.{kind_of, KindAt, MarkAt}
use Rattle.bsii_walk.specs.declared.records.RecordKind.{RecordKind}
use Rattle.bsii_walk.specs.declared.records.RecordKind.TheVariants.{Defines, Carries}
use Rattle.std.specs.Prelude.{Ok, Err, Some, None, Option as Answer, Result as Outcome}

-- what the code read is what the specification reads
read_is : (s : List ℕ) (w at : ℕ) {q : Outcome (ℕ × ℕ) Refusal} {v n : ℕ} → num_of s q ≡ number w at (drop at s) → q ≡ Ok (v, n) → number w at (drop at s) ≡ ok v n (drop n s)
read_is s w at e z = sym e ∙ ap (num_of s) z

cut_is : (s : List ℕ) (w at : ℕ) {q : Outcome (ℕ × ℕ) Refusal} {f : Refusal} → num_of s q ≡ number w at (drop at s) → q ≡ Err f → number w at (drop at s) ≡ fault (fault_is f)
cut_is s w at e z = sym e ∙ ap (num_of s) z

-- ---- behind a record number of zero

record Marked (at : ℕ) (s : List ℕ) (h : Head) (n : ℕ) (t : List ℕ) : Type 0 where
  pub mark : ℕ
  pub next : ℕ
  pub rest : List ℕ
  pub read : number 1 at s ≡ ok mark next rest
  pub behind : mark_parser mark next rest ≡ ok h n t

marked : (at : ℕ) (s : List ℕ) (h : Head) (n : ℕ) (t : List ℕ) → marked_parser at s ≡ ok h n t → Marked at s h n t
unfolding marked_parser ◌>>=◌ verify
marked at s h n t e =
    let p = after_ok (verify (λ m. leb m 1) bad_mark le_u8 at s) mark_parser e in
    let q = after_ok (number 1 at s) _ p.3 in
    let w = cond_ok (leb q.0 1) (ok q.0 q.1 q.2) _ q.4 in
    record { mark = p.0; next = p.1; rest = p.2; read = q.3 ∙ w.1; behind = p.4 }

-- a mark other than 0 stands in front of an id
defined : (m at : ℕ) (s : List ℕ) (h : Head) (n : ℕ) (t : List ℕ) → (m ≡ 0 → ⊥) → mark_parser m at s ≡ ok h n t
    → (id : ℕ) × (k : ℕ) × (r : List ℕ) × (name : List ℕ) × (number 4 at s ≡ ok id k r) × (h ≡ defining id name)
unfolding mark_parser ◌>>=◌ success
defined zero at s h n t z e = absurd (z refl)
defined (suc m) at s h n t z e =
    let p = after_ok (number 4 at s) _ e in
    let q = after_ok (str_parser p.1 p.2) _ p.4 in
    (p.0, p.1, p.2, q.0, p.3, sym (ok_val q.4))

-- the id that stands at `next`
record IdAt (s : List ℕ) (next : ℕ) (h : Head) : Type 0 where
  pub id : ℕ
  pub after : ℕ
  pub name : List ℕ
  pub read : number 4 next (drop next s) ≡ ok id after (drop after s)
  pub is : h ≡ defining id name

module _ (s : List ℕ) (at : ℕ) {q : Outcome (ℕ × ℕ) Refusal} (e : num_of s q ≡ number 1 at (drop at s)) where
  pub mark_cut : {f : Refusal} → q ≡ Err f → (r : Answer RecordKind) → MarkAt s at r
  mark_cut z r = record { is = λ h n t w. let m = marked at (drop at s) h n t w in fault≢ok (sym (cut_is s 1 at e z) ∙ m.read) }

  pub mark_zero : {v n : ℕ} → q ≡ Ok (v, n) → v ≡ 0 → MarkAt s at None
  unfolding mark_parser success
  mark_zero {v} {n} z k = record {
    is = λ h i t w.
        let m = marked at (drop at s) h i t w in
        let is : m.mark ≡ 0 = sym (ok_val (sym (read_is s 1 at e z) ∙ m.read)) ∙ k in
        let b : mark_parser 0 m.next m.rest ≡ ok h i t = ap (λ x. mark_parser x m.next m.rest) (sym is) ∙ m.behind in
        ap (λ x. kind_of x i) (ok_val b);
  }

  module _ {v next : ℕ} (z : q ≡ Ok (v, next)) (k : v ≡ 0 → ⊥) where
    id_of_law : (h : Head) (n : ℕ) (t : List ℕ) → marked_parser at (drop at s) ≡ ok h n t → IdAt s next h
    id_of_law h n t w =
        let m = marked at (drop at s) h n t w in
        let i = sym (read_is s 1 at e z) ∙ m.read in
        let d = defined m.mark m.next m.rest h n t (λ y. k (ok_val i ∙ y)) m.behind in
        let r : number 4 next (drop next s) ≡ ok d.0 d.1 d.2 = ap₂ (λ (a : ℕ) (b : List ℕ). number 4 a b) (ok_at i) (ok_rest i) ∙ d.4 in
        record { id = d.0; after = d.1; name = d.3; read = r ∙ ap (ok d.0 d.1) (moved (number_exact 4) s next r).rest; is = d.5 }

    pub mark_id_cut : {p : Outcome (ℕ × ℕ) Refusal} {x : Refusal} → num_of s p ≡ number 4 next (drop next s) → p ≡ Err x → (r : Answer RecordKind) → MarkAt s at r
    mark_id_cut f y r = record { is = λ h n t w. fault≢ok (sym (cut_is s 4 next f y) ∙ (id_of_law h n t w).read) }

    pub mark_id : {p : Outcome (ℕ × ℕ) Refusal} {id after : ℕ} → num_of s p ≡ number 4 next (drop next s) → p ≡ Ok (id, after) → MarkAt s at (Some (Defines id))
    mark_id {id = id} f y = record {
      is = λ h n t w.
          let x = id_of_law h n t w in
          ap (λ i. Some (Defines i)) (ok_val (sym (read_is s 4 next f y) ∙ x.read)) ∙ ap (λ g. kind_of g n) (sym x.is);
    }

-- ---- the head

module _ (s : List ℕ) (at : ℕ) {q : Outcome (ℕ × ℕ) Refusal} (e : num_of s q ≡ number 4 at (drop at s)) where
  head_after : {v n : ℕ} → q ≡ Ok (v, n) → head_parser at (drop at s) ≡ cond (eqb v 0) marked_parser (success (carrying v)) n (drop n s)
  unfolding head_parser ◌>>=◌ after marked_parser
  head_after z = rw (read_is s 4 at e z)

  pub kind_cut : {f : Refusal} → q ≡ Err f → (r : Answer RecordKind) → KindAt s at r
  unfolding head_parser ◌>>=◌ after
  kind_cut {f} z r = record {
    is = λ h n t w.
        let x : head_parser at (drop at s) ≡ fault (fault_is f) = rw (cut_is s 4 at e z) in
        fault≢ok (sym x ∙ w);
  }

  pub kind_block : {v n : ℕ} → q ≡ Ok (v, n) → (v ≡ 0 → ⊥) → KindAt s at (Some (Carries v n))
  unfolding success
  kind_block {v} {n} z k = record {
    is = λ h i t w.
        let f : head_parser at (drop at s) ≡ ok (carrying v) n (drop n s) = head_after z ∙ rw (ne_eqb v 0 k) in
        let g = sym f ∙ w in
        ap (λ m. Some (Carries v m)) (ok_at g) ∙ ap (λ x. kind_of x i) (ok_val g);
  }

  pub kind_marked : {v n : ℕ} {r : Answer RecordKind} → q ≡ Ok (v, n) → v ≡ 0 → MarkAt s n r → KindAt s at r
  kind_marked {v} {n} z k m = record {
    is = λ h i t w.
        let f : head_parser at (drop at s) ≡ marked_parser n (drop n s) = head_after z ∙ rw (eq-eqb v 0 k) in
        m.is h i t (sym f ∙ w);
  }
