-- The head of the prototype at an offset, part by part, and what a record's head there is.
use mathlib.Core.Path.{◌≡◌, sym, ap, ◌∙◌}
use Prim.Native.Nat.{ℕ}
use native.Mathlib.Omega.{arith}
use mathlib.Core.List.{List}
use lib.Dec.{eqb, eqb→eq}
use borrow.Author.Tests.{eq-eqb, ne_eqb}
use Rattle.bsii_format.specs.Replies.{Fault, undefined_prototype}
use Rattle.bsii_format.specs.Reader.{ok, fault, Reader, after, success, fault_at, ◌>>=◌}
use Rattle.bsii_format.specs.Numbers.{number, le_u8, le_u32}
use Rattle.bsii_format.specs.Strings.{str_parser}
use Rattle.bsii_format.specs.File.{defining, mark_parser, head_parser}
use Rattle.bsii_format.proofs.Readers.{after_ok, cond_ok, ok_val, at_value}
use Rattle.bsii_format.proofs.Positions.{bind_ok, bind_fault}
use Rattle.bsii_string.specs.Answers.{fault_is, refused_at}
use Rattle.bsii_string.specs.declared.answers.Refusal.{Refusal}
use Rattle.bsii_prototype.proofs.Beginnings.{head_marked, marked, defining_whole}
use Rattle.bsii_derived.specs.IndexCalls.{demand, PrototypeHead, prototype_head}
use Rattle.bsii_index_field.specs.Looks.{named_head, marked_head, head_of}
use Rattle.std.specs.Prelude.{Ok, Err}

-- ---- a number that must be k, for the block at b

module _ (k b : ℕ) (R : Reader ℕ) {at : ℕ} {s : List ℕ} where
  demand_fault : {x : Fault} → R at s ≡ fault x → demand k b R at s ≡ fault x
  unfolding demand after
  demand_fault e = rw e

  module _ {m n : ℕ} {r : List ℕ} where
    demand_ok : R at s ≡ ok m n r → m ≡ k → demand k b R at s ≡ ok m n r
    unfolding demand after
    demand_ok e h = rw (e, eq-eqb m k h)

    demand_not : R at s ≡ ok m n r → (m ≡ k → ⊥) → demand k b R at s ≡ fault_at undefined_prototype b
    unfolding demand after
    demand_not e h = rw (e, ne_eqb m k h)

    demanded : demand k b R at s ≡ ok m n r → (m ≡ k) × (R at s ≡ ok m n r)
    unfolding demand
    demanded e =
        let q = after_ok (R at s) _ e in
        let w = cond_ok (eqb q.0 k) (ok q.0 q.1 q.2) _ q.4 in
        (sym (ok_val w.1) ∙ eqb→eq q.0 k w.0, q.3 ∙ w.1)

-- ---- as the code's answers

module _ (at : ℕ) (s : List ℕ) where
  pub named_short : {f : Refusal} → number 4 at s ≡ fault (fault_is f) → Err f ≡ head_of (named_head at s)
  unfolding named_head head_of
  named_short e = sym (ap head_of (bind_fault (number 4) _ e))

  module _ {k n : ℕ} {r : List ℕ} (e : number 4 at s ≡ ok k n r) where
    pub named_cut : {f : Refusal} → str_parser n r ≡ fault (fault_is f) → Err f ≡ head_of (named_head at s)
    unfolding named_head head_of
    named_cut h = sym (ap head_of (bind_ok (number 4) _ e ∙ bind_fault str_parser _ h))

    pub named_whole : {v : List ℕ} {m : ℕ} {q : List ℕ} → str_parser n r ≡ ok v m q → Ok (record { id = k; fields = m }) ≡ head_of (named_head at s)
    unfolding named_head head_of success
    named_whole h = sym (ap head_of (bind_ok (number 4) _ e ∙ bind_ok str_parser _ h))

  module _ (b : ℕ) where
    pub mark_short : {f : Refusal} → number 1 at s ≡ fault (fault_is f) → Err f ≡ head_of (marked_head b at s)
    unfolding marked_head head_of
    mark_short e = sym (ap head_of (bind_fault (demand 1 b le_u8) _ (demand_fault 1 b le_u8 e)))

    pub zero_short : {f : Refusal} → number 4 at s ≡ fault (fault_is f) → Err f ≡ head_of (prototype_head b at s)
    unfolding prototype_head head_of
    zero_short e = sym (ap head_of (bind_fault (demand 0 b le_u32) _ (demand_fault 0 b le_u32 e)))

    module _ {m n : ℕ} {r : List ℕ} where
      pub mark_not : number 1 at s ≡ ok m n r → (m ≡ 1 → ⊥) → Err (refused_at undefined_prototype b) ≡ head_of (marked_head b at s)
      unfolding marked_head head_of
      mark_not e h = sym (ap head_of (bind_fault (demand 1 b le_u8) _ (demand_not 1 b le_u8 e h)))

      pub mark_one : number 1 at s ≡ ok m n r → m ≡ 1 → head_of (named_head n r) ≡ head_of (marked_head b at s)
      unfolding marked_head
      mark_one e h = sym (ap head_of (bind_ok (demand 1 b le_u8) (λ m. named_head) (demand_ok 1 b le_u8 e h)))

      pub zero_not : number 4 at s ≡ ok m n r → (m ≡ 0 → ⊥) → Err (refused_at undefined_prototype b) ≡ head_of (prototype_head b at s)
      unfolding prototype_head head_of
      zero_not e h = sym (ap head_of (bind_fault (demand 0 b le_u32) _ (demand_not 0 b le_u32 e h)))

      pub zero_on : number 4 at s ≡ ok m n r → m ≡ 0 → head_of (marked_head b n r) ≡ head_of (prototype_head b at s)
      unfolding prototype_head marked_head named_head
      zero_on e h = sym (ap head_of (bind_ok (demand 0 b le_u32) (λ z. marked_head b) (demand_ok 0 b le_u32 e h)))

-- ---- as a record's head: what is accepted here defines a prototype

pub head_defines : (b at : ℕ) (s : List ℕ) {h : PrototypeHead} {n : ℕ} {r : List ℕ} → prototype_head b at s ≡ ok h n r
    → head_parser at s ≡ ok (defining h.id h.name) n r
unfolding prototype_head ◌>>=◌ success
head_defines b at s {h} {n} {r} e =
    let z = after_ok (demand 0 b le_u32 at s) _ e in
    let m = after_ok (demand 1 b le_u8 z.1 z.2) _ z.4 in
    let i = after_ok (le_u32 m.1 m.2) _ m.4 in
    let l = after_ok (str_parser i.1 i.2) _ i.4 in
    let dz = demanded 0 b le_u32 z.3 in
    let dm = demanded 1 b le_u8 m.3 in
    head_marked at s dz.1 dz.0
    ∙ marked z.1 z.2 dm.1 (omega (arith, dm.0))
    ∙ ap (λ (k : ℕ). mark_parser k m.1 m.2) dm.0
    ∙ defining_whole m.1 m.2 i.3 l.3
    ∙ at_value (defining i.0 l.0) l.4
    ∙ ap (λ (h : PrototypeHead). ok (defining h.id h.name) n r) (ok_val l.4)
