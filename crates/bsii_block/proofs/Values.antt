-- A block's values under its definitions, one after the other, by any reader of values: what a turn of the loop over them keeps, and how many there are.
use mathlib.Core.Path.{◌≡◌, refl, sym, ap, ◌∙◌}
use Prim.Native.Nat.{ℕ, ◌+◌, ◌≤◌, ◌<◌}
use native.Mathlib.Omega.{arith}
use mathlib.Core.List.{List}
use lib.ListN.{length, drop}
use Rattle.bsii_format.specs.Reader.{ok, fault, Reader, after, ◌>>=◌, success}
use Rattle.bsii_format.specs.Prototypes.{Fields, cons_field, fields_parser}
use Rattle.bsii_format.proofs.Readers.{Exact}
use Rattle.bsii_format.proofs.Positions.{ended, ended_after}
use Rattle.bsii_string.specs.Answers.{fault_is, end_of, unchecked_str}
use Rattle.bsii_string.specs.declared.answers.Refusal.{Refusal}
use Rattle.bsii_string.proofs.Ends.{answer, alike, next≢fault, next_ended, fault_ended, next_same}
use Rattle.bsii_prototype.specs.Entries.{entry_with, unchecked_head}
use Rattle.bsii_prototype.specs.Answers.{entry_of, counted}
use Rattle.bsii_prototype.specs.declared.answers.Entry.TheVariants.{Field, Last}
use Rattle.bsii_prototype.specs.declared.answers.Counted.{Counted}
use Rattle.bsii_prototype.proofs.Turns.{turn_field, turn_last, turn_bad}
use Rattle.bsii_prototype.proofs.Beginnings.{head_next}
use Rattle.bsii_block.specs.Blocks.{counted_end, values_with, ValuesWith, DefinedWith}
use Rattle.std.specs.Prelude.{Ok, Err, Result as Outcome}

-- ---- a part and those behind it

module _ {A B : Type 0} (R : Reader A) (f : A → Reader B) (S : Reader B) (same : (a : A) → f a ≡ S) (s : List ℕ) (at : ℕ) where
  go_on : Exact A R → {e : ℕ} → Ok e ≡ end_of (R at (drop at s)) → end_of (S e (drop e s)) ≡ end_of ((R >>= f) at (drop at s))
  unfolding ◌>>=◌ after ended
  go_on x {e} h =
      alike (S e (drop e s)) ((R >>= f) at (drop at s))
      (sym (ended_after {B = Unit {0}} (R at (drop at s)) (ok tt e (drop e s)) f (λ u. S) (next_ended x s at h) (λ a b i r. ap (λ (T : Reader B). ended (T i r)) (same a))))

  stop : {x : Refusal} → Err x ≡ end_of (R at (drop at s)) → Err x ≡ end_of ((R >>= f) at (drop at s))
  unfolding ◌>>=◌ after end_of ended
  stop {x} h =
      answer ((R >>= f) at (drop at s)) (fault (fault_is x))
      (ended_after {B = Unit {0}} (R at (drop at s)) (fault (fault_is x)) f (λ u. S) (fault_ended (R at (drop at s)) h) (λ a b i r. ap (λ (T : Reader B). ended (T i r)) (same a)))

-- ---- the loop: definitions from `field` on and values from `at` on end as all of them do, and `count` were passed, each definition with a byte at least

pub record InStep {A : Type 0} (V : ℕ → Reader A) (s : List ℕ) (fields start field at count : ℕ) : Type 0 where
  pub few : count ≤ field
  pub rest : (l : Fields) (n : ℕ) (t : List ℕ) → fields_parser fields (drop fields s) ≡ ok l n t
      → (k : Fields) × (fields_parser field (drop field s) ≡ ok k n t) × (count + length k.fields ≡ length l.fields)
      × (end_of (values_with V k.fields at (drop at s)) ≡ end_of (values_with V l.fields start (drop start s)))

module _ {A : Type 0} {V : ℕ → Reader A} {s : List ℕ} {fields start : ℕ} where
  pub step_start : InStep V s fields start fields start 0
  step_start = record { few = omega arith; rest = λ l n t e. (l, e, omega arith, refl) }

  module _ {field at count : ℕ} (i : InStep V s fields start field at count) where
    pub step_last : {n : ℕ} → Ok (Last n) ≡ entry_of (field + 8) (entry_with unchecked_str field (drop field s)) → ValuesWith V s fields start (counted count at)
    unfolding values_with success end_of
    step_last e = record {
      ends = λ l n t h.
          let k = i.rest l n t h in
          let none = (turn_last s field k.1 e).0 in
          let all : count ≡ length l.fields = omega (arith, k.2, ap length none) in
          ap (λ c. counted c at) all
          ∙ ap (counted_end (length l.fields)) (ap (λ fs. end_of (values_with V fs at (drop at s))) (sym none) ∙ k.3);
    }

    pub step_bad : {f : Refusal} → Err f ≡ entry_of (field + 8) (entry_with unchecked_str field (drop field s)) → (r : Outcome Counted Refusal)
        → ValuesWith V s fields start r
    step_bad e r = record { ends = λ l n t h. turn_bad s field (i.rest l n t h).1 e }

    module _ {type a b next : ℕ} (e : Ok (Field type a b next) ≡ entry_of (field + 8) (entry_with unchecked_str field (drop field s))) where
      -- the definitions and the values that are left, by the first of both
      begun : (l : Fields) (n : ℕ) (t : List ℕ) → fields_parser fields (drop fields s) ≡ ok l n t
          → (k : Fields) × (fields_parser next (drop next s) ≡ ok k n t) × (count + 1 + length k.fields ≡ length l.fields)
          × (end_of ((V type >>= (λ v. values_with V k.fields)) at (drop at s)) ≡ end_of (values_with V l.fields start (drop start s)))
      unfolding cons_field values_with
      begun l n t h =
          let x = i.rest l n t h in
          let y = turn_field s field x.1 e in (
            y.rest,
            y.more,
            omega (arith, x.2, ap length y.fields),
            ap (λ z. end_of ((V z >>= (λ v. values_with V y.rest.fields)) at (drop at s))) y.typed
                ∙ ap (λ (z : Fields). end_of (values_with V z.fields at (drop at s))) (sym y.list) ∙ x.3,
          )

      pub step_fault : {f : Refusal} → Err f ≡ end_of (V type at (drop at s)) → ValuesWith V s fields start (Err f)
      step_fault v = record {
        ends = λ l n t h.
            let x = begun l n t h in
            let S = values_with V x.0.fields in
            ap (counted_end (length l.fields)) (stop (V type) (λ v. S) S (λ v. refl) s at v ∙ x.3);
      }

      pub step_next : ((type : ℕ) → Exact A (V type)) → field < next → {end : ℕ} → Ok end ≡ end_of (V type at (drop at s)) → InStep V s fields start next end (count + 1)
      step_next exact later {end} v = record {
        few = omega (arith, i.few);
        rest = λ l n t h.
            let x = begun l n t h in
            let S = values_with V x.0.fields in
            (x.0, x.1, x.2, go_on (V type) (λ v. S) S (λ v. refl) s at (exact type) v ∙ x.3);
      }

-- ---- a block under a prototype that stands at an offset

module _ {A B : Type 0} (I : Reader A) (V : ℕ → Reader B) {s : List ℕ} {o at : ℕ} where
  pub defined_fault : {f : Refusal} → Err f ≡ end_of (unchecked_head o (drop o s)) → (v : Outcome Counted Refusal) → DefinedWith I V s o at v
  defined_fault e v = record { ends = λ p h. next≢fault (sym (e ∙ head_next o (drop o s) h.head)) }

  pub defined_id : {f : Refusal} → Err f ≡ end_of (I at (drop at s)) → DefinedWith I V s o at (Err f)
  defined_id e = record {
    ends = λ p h.
        let S = values_with V p.fields in
        ap (counted_end (length p.fields)) (stop I (λ i. S) S (λ i. refl) s at e);
  }

  pub defined_values : Exact A I → {first next : ℕ} {v : Outcome Counted Refusal} → Ok first ≡ end_of (unchecked_head o (drop o s)) → Ok next ≡ end_of (I at (drop at s))
      → ValuesWith V s first next v → DefinedWith I V s o at v
  defined_values x {first} {next} z e b = record {
    ends = λ p h.
        let S = values_with V p.fields in
        let i : first ≡ h.fields = next_same (z ∙ head_next o (drop o s) h.head) in
        b.ends _ _ _ (ap (λ n. fields_parser n (drop n s)) i ∙ h.list)
        ∙ ap (counted_end (length p.fields)) (go_on I (λ i. S) S (λ i. refl) s at x e);
  }
