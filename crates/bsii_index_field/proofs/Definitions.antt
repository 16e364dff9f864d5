-- The whole prototype at an offset: it is read as the look-up reads it, and stands there as it does for the walks.
use mathlib.Core.Path.{◌≡◌, refl, ap, ◌∙◌, subst}
use Prim.Native.Nat.{ℕ, ◌-◌}
use mathlib.Core.List.{List}
use lib.ListN.{take, drop}
use Rattle.bsii_format.specs.Replies.{Fault}
use Rattle.bsii_format.specs.Reader.{Result, ok, fault, Reader, after, with, consumed}
use Rattle.bsii_format.specs.Prototypes.{Prototype as PrototypeOf, Fields, fields_parser}
use Rattle.bsii_format.specs.File.{defining}
use Rattle.bsii_format.proofs.Readers.{map_fault}
use Rattle.bsii_format.proofs.Parsers.{head_exact}
use Rattle.bsii_format.proofs.Positions.{moved, bind_ok, bind_fault, map_value, consumed_ok}
use Rattle.bsii_string.specs.Answers.{fault_is, refusal_is}
use Rattle.bsii_string.specs.declared.answers.Refusal.{Refusal}
use Rattle.bsii_prototype.specs.Answers.{count_of}
use Rattle.bsii_prototype.specs.declared.answers.Counted.{Counted}
use Rattle.bsii_block.specs.Blocks.{DefinedAt}
use Rattle.bsii_parse.proofs.Passing.{counted_fault, counted_is}
use Rattle.bsii_derived.specs.IndexCalls.{PrototypeHead, prototype_head, prototype_with, prototype_at}
use Rattle.bsii_index_field.specs.Looks.{head_of, PrototypeRead, read, unread}
use Rattle.bsii_index_field.specs.declared.prototypes.Prototype.{Prototype}
use Rattle.bsii_index_field.proofs.Heads.{head_defines}
use Rattle.std.specs.Prelude.{Ok, Err, Result as Outcome}

pub consumed_fault : {A : Type 0} (R : Reader A) {at : ℕ} {s : List ℕ} {x : Fault} → R at s ≡ fault x → consumed R at s ≡ fault x
unfolding consumed after
consumed_fault R e = rw e

-- ---- by its head and its definitions

module _ (b at : ℕ) (s : List ℕ) where
  prototype_fault : {x : Fault} → prototype_head b at s ≡ fault x → prototype_at b at s ≡ fault x
  unfolding prototype_at
  prototype_fault e = bind_fault (consumed (prototype_head b)) _ (consumed_fault (prototype_head b) e)

  module _ {h : PrototypeHead} {n : ℕ} {r : List ℕ} (e : prototype_head b at s ≡ ok h n r) where
    prototype_cut : {x : Fault} → fields_parser n r ≡ fault x → prototype_at b at s ≡ fault x
    unfolding prototype_at
    prototype_cut k = bind_ok (consumed (prototype_head b)) _ (consumed_ok (prototype_head b) e) ∙ map_fault _ fields_parser n r k

    prototype_whole : {l : Fields} {m : ℕ} {t : List ℕ} → fields_parser n r ≡ ok l m t
        → prototype_at b at s ≡ ok (prototype_with (with h (take (n - at) s)) l) m t
    unfolding prototype_at
    prototype_whole k = bind_ok (consumed (prototype_head b)) _ (consumed_ok (prototype_head b) e) ∙ map_value _ fields_parser k

-- ---- what the code's answers say

head_refused : {f : Refusal} (q : Result PrototypeHead) → Err f ≡ head_of q → q ≡ fault (fault_is f)
unfolding head_of
head_refused (ok h n r) e = cc
head_refused {f} (fault x) e = let a : refusal_is x ≡ f = cc in ap (λ (f : Refusal). fault (fault_is f)) a

head_read : {p : Prototype} (q : Result PrototypeHead) → Ok p ≡ head_of q → (h : PrototypeHead) × (r : List ℕ) × (q ≡ ok h p.fields r) × (h.id ≡ p.id)
unfolding head_of
head_read {p} (ok h m r) e =
    let j : record { id = h.id; fields = m } ≡ p = cc in
    (h, r, ap (λ (p : Prototype). ok h p.fields r) j, ap (λ (p : Prototype). p.id) j)
head_read (fault x) e = cc

module _ (s : List ℕ) (at b : ℕ) where
  pub no_head : {f : Refusal} → Err f ≡ head_of (prototype_head b at (drop at s)) → PrototypeRead s at b (Err f)
  no_head e = unread (prototype_fault b at (drop at s) (head_refused _ e))

  module _ {p : Prototype} (e : Ok p ≡ head_of (prototype_head b at (drop at s))) where
    pub no_list : {f : Refusal} → Err f ≡ count_of (fields_parser p.fields (drop p.fields s)) → PrototypeRead s at b (Err f)
    no_list k =
        let h = head_read _ e in
        let m = moved head_exact s at (head_defines b at (drop at s) h.2) in
        unread (prototype_cut b at (drop at s) h.2 (ap (fields_parser p.fields) m.rest ∙ counted_fault _ k))

    pub listed : {c : Counted} → Ok c ≡ count_of (fields_parser p.fields (drop p.fields s)) → PrototypeRead s at b (Ok p)
    unfolding prototype_with
    listed {c} k =
        let h = head_read _ e in
        let d = head_defines b at (drop at s) h.2 in
        let m = moved head_exact s at d in
        let l = counted_is s p.fields k in
        subst (λ (i : ℕ). PrototypeRead s at b (Ok (record { id = i; fields = p.fields }))) h.3
        (read (prototype_with (with h.0 (take (p.fields - at) (drop at s))) l.0)
        (record { fields = p.fields; next = c.next; head = d ∙ ap (ok (defining h.0.id h.0.name) p.fields) m.rest; list = l.1 })
        (prototype_whole b at (drop at s) h.2 (ap (fields_parser p.fields) m.rest ∙ l.1)))

-- ---- and back

pub record Stands (s : List ℕ) (at b id fields : ℕ) : Type 0 where
  pub p : PrototypeOf
  pub defined : DefinedAt s at p
  pub next : ℕ
  pub reads : prototype_at b at (drop at s) ≡ ok p next (drop next s)
  pub id_is : p.id ≡ id
  pub fields_at : defined.fields ≡ fields

stands_of : {s : List ℕ} {at b : ℕ} {r : Outcome Prototype Refusal} → PrototypeRead s at b r → {q : Prototype} → r ≡ Ok q → Stands s at b q.id q.fields
stands_of (read p {n} d e) {q} z =
    let j : record { id = p.id; fields = d.fields } ≡ q = cc in
    record { p = p; defined = d; next = n; reads = e; id_is = ap (λ (p : Prototype). p.id) j; fields_at = ap (λ (p : Prototype). p.fields) j }
stands_of (unread e) z = cc

pub stands : {s : List ℕ} {at b : ℕ} {q : Prototype} → PrototypeRead s at b (Ok q) → Stands s at b q.id q.fields
stands h = stands_of h refl

unstood_of : {s : List ℕ} {at b : ℕ} {r : Outcome Prototype Refusal} → PrototypeRead s at b r → {f : Refusal} → r ≡ Err f → prototype_at b at (drop at s) ≡ fault (fault_is f)
unstood_of (read p d e) z = cc
unstood_of (unread {f = g} e) {f} z = let a : g ≡ f = cc in e ∙ ap (λ (f : Refusal). fault (fault_is f)) a

pub unstood : {s : List ℕ} {at b : ℕ} {f : Refusal} → PrototypeRead s at b (Err f) → prototype_at b at (drop at s) ≡ fault (fault_is f)
unstood h = unstood_of h refl
