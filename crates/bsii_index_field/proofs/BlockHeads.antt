-- The block at an offset, under a prototype: what stands in front of its values, and the field that is answered by them.
use mathlib.Core.Path.{◌≡◌, refl, sym, ap, ◌∙◌}
use Prim.Native.Nat.{ℕ, ◌+◌, ◌-◌}
use native.Mathlib.Omega.{arith}
use mathlib.Core.Bool.{Bool, true, false, not, ◌&&◌}
use mathlib.Core.Option.{some, map}
use mathlib.Core.List.{List}
use lib.ListN.{length, take, drop}
use lib.Dec.{eqb}
use borrow.Author.Tests.{eq-eqb, ne_eqb}
use Rattle.bsii_format.specs.Replies.{Fault as FaultOf, undefined_prototype}
use Rattle.bsii_format.specs.Reader.{Result, Reader, ok, fault, fault_at, after, success, verify, Consumed, with, consumed, ◌>>=◌}
use Rattle.bsii_format.specs.Numbers.{number, le_u32}
use Rattle.bsii_format.specs.Strings.{Id, id_parser}
use Rattle.bsii_format.specs.Prototypes.{Prototype}
use Rattle.bsii_format.specs.Blocks.{DataValue, data_values_parser}
use Rattle.bsii_format.specs.BlockText.{values_offset}
use Rattle.bsii_format.specs.Calls.{or_absent, field_index, field_under, field_answer}
use Rattle.bsii_format.proofs.Readers.{Exact, bind_exact, verify_exact, after_ok, fault_is_law}
use Rattle.bsii_format.proofs.Parsers.{number_exact, id_exact}
use Rattle.bsii_format.proofs.Positions.{step, bind_ok, bind_fault, verify_ok, verify_not, verify_fault, consumed_ok}
use Rattle.bsii_string.specs.Answers.{fault_is, refused_at, end_of}
use Rattle.bsii_string.specs.declared.answers.Refusal.{Refusal}
use Rattle.bsii_derived.specs.IndexCalls.{is_of, block_at, answering}
use Rattle.bsii_index_field.specs.Looks.{block_head, HeadRead, value_of}
use Rattle.std.specs.Prelude.{Err, Result as Outcome}

-- ---- its prototype id

and_false : (b : Bool) → b && false ≡ false
and_false true = refl
and_false false = refl

zero_strange : (p : Prototype) (k : ℕ) → k ≡ 0 → is_of p k ≡ false
unfolding is_of
zero_strange p k h = rw (eq-eqb k 0 h)

other_strange : (p : Prototype) {id : ℕ} (k : ℕ) → p.id ≡ id → (k ≡ id → ⊥) → is_of p k ≡ false
unfolding is_of
other_strange p k i h = rw (ne_eqb k p.id (λ x. h (x ∙ i))) (and_false (not (eqb k 0)))

own : (p : Prototype) {id : ℕ} (k : ℕ) → (k ≡ 0 → ⊥) → p.id ≡ id → k ≡ id → is_of p k ≡ true
unfolding is_of
own p k z i h = rw (ne_eqb k 0 z, eq-eqb k p.id (h ∙ sym i))

strange : (p : Prototype) (at : ℕ) (s : List ℕ) {k n : ℕ} {r : List ℕ} → number 4 at s ≡ ok k n r → is_of p k ≡ false → block_head p at s ≡ fault_at undefined_prototype at
unfolding block_head
strange p at s e h = bind_fault (verify (is_of p) undefined_prototype le_u32) _ (verify_not (is_of p) undefined_prototype le_u32 e h)

module _ {s : List ℕ} {at id : ℕ} where
  pub head_cut : {f : Refusal} → number 4 at (drop at s) ≡ fault (fault_is f) → HeadRead s at id (Err f)
  unfolding block_head end_of
  head_cut e = record {
    ends = λ p i. sym (ap end_of (bind_fault (verify (is_of p) undefined_prototype le_u32) _ (verify_fault (is_of p) undefined_prototype le_u32 e)));
  }

  module _ {k n : ℕ} {r : List ℕ} (e : number 4 at (drop at s) ≡ ok k n r) where
    pub head_zero : k ≡ 0 → HeadRead s at id (Err (refused_at undefined_prototype at))
    unfolding end_of
    head_zero z = record { ends = λ p i. sym (ap end_of (strange p at (drop at s) e (zero_strange p k z))) }

    pub head_other : (k ≡ id → ⊥) → HeadRead s at id (Err (refused_at undefined_prototype at))
    unfolding end_of
    head_other z = record { ends = λ p i. sym (ap end_of (strange p at (drop at s) e (other_strange p k i z))) }

    pub head_own : (k ≡ 0 → ⊥) → k ≡ id → {q : Outcome ℕ Refusal} → q ≡ end_of (id_parser n r) → HeadRead s at id q
    unfolding block_head
    head_own z o w = record {
      ends = λ p i. w ∙ sym (ap end_of (bind_ok (verify (is_of p) undefined_prototype le_u32) _ (verify_ok (is_of p) undefined_prototype le_u32 e (own p k z i o))));
    }

-- ---- two readers in a row, with the bytes that each takes

module _ {A B C : Type 0} (R : Reader A) (S : Reader B) (f : Consumed A → Consumed B → Reader C) where
  pair_fault : (at : ℕ) (s : List ℕ) {x : FaultOf} → (R >>= (λ a. S)) at s ≡ fault x → (consumed R >>= (λ a. consumed S >>= f a)) at s ≡ fault x
  unfolding ◌>>=◌ consumed after
  pair_fault at s {x} e = go (R at s) e
    where
      go : (q : Result A) → after q (λ a. S) ≡ fault x
          → after (after q (λ a i r. ok (with a (take (i - at) s)) i r)) (λ a i r. after (consumed S i r) (f a)) ≡ fault x
      go (ok a i r) e = rw e
      go (fault y) e = ap fault (fault_is_law e)

  pair_ok : Exact A R → Exact B S → (s : List ℕ) (at : ℕ) {b : B} {n : ℕ} → (R >>= (λ a. S)) at (drop at s) ≡ ok b n (drop n s)
      → (h : Consumed A) × (i : Consumed B) × (n ≡ at + length h.raw + length i.raw)
      × ((consumed R >>= (λ a. consumed S >>= f a)) at (drop at s) ≡ f h i n (drop n s))
  unfolding ◌>>=◌
  pair_ok x y s at {b} {n} e =
      let q = after_ok (R at (drop at s)) _ e in
      let h = with q.0 (take (q.1 - at) (drop at s)) in
      let i = with b (take (n - q.1) q.2) in
      let here = consumed_ok R q.3 in
      let there = consumed_ok S q.4 in
      let first = step x s at here in
      let second = step y s q.1 (ap (consumed S q.1) (sym first.behind) ∙ there) in
      (h, i, omega (arith, first.place, second.place), bind_ok (consumed R) _ here ∙ bind_ok (consumed S) (f h) there)

-- ---- the block, once that is read

pub block_head_exact : (p : Prototype) → Exact Id (block_head p)
unfolding block_head
block_head_exact p = bind_exact _ (verify_exact (is_of p) undefined_prototype (number_exact 4)) (λ n. id_exact)

module _ (version : ℕ) (p : Prototype) (s : List ℕ) (at : ℕ) where
  pub block_cut : {x : FaultOf} → block_head p at (drop at s) ≡ fault x → block_at version p at (drop at s) ≡ fault x
  unfolding block_head block_at
  block_cut e = pair_fault (verify (is_of p) undefined_prototype le_u32) id_parser _ at (drop at s) e

  -- the field under a name is that of the values
  pub block_values : (name : List ℕ) {i : Id} {start : ℕ} → block_head p at (drop at s) ≡ ok i start (drop start s)
      → answering (block_at version p at (drop at s)) (λ b. or_absent (map field_answer (field_under name (record { offset = at; it = b }) (some p))))
      ≡ answering (data_values_parser version p.fields start (drop start s)) (λ vs. or_absent (value_of start vs (field_index name p.fields)))
  unfolding block_head block_at ◌>>=◌ after success answering field_under values_offset
  block_values name {start = start} e =
      let q = pair_ok (verify (is_of p) undefined_prototype le_u32) id_parser _ (verify_exact (is_of p) undefined_prototype (number_exact 4)) id_exact s at e in
      ap (λ b. answering b (λ b. or_absent (map field_answer (field_under name (record { offset = at; it = b }) (some p))))) q.3
      ∙ go q.0 q.1 q.2 (data_values_parser version p.fields start (drop start s))
    where
      go : (h : Consumed ℕ) (i : Consumed Id) → start ≡ at + length h.raw + length i.raw → (q : Result (List DataValue))
          → answering (after q (λ l. success (record { head = h.raw; prototype_id = h.value; id = i; values = l })))
          (λ b. or_absent (map field_answer (field_under name (record { offset = at; it = b }) (some p))))
          ≡ answering q (λ vs. or_absent (value_of start vs (field_index name p.fields)))
      go h i z (ok vs n r) = ap (λ (n : ℕ). or_absent (value_of n vs (field_index name p.fields))) (sym z)
      go h i z (fault x) = refl
