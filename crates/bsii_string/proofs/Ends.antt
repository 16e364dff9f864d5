-- Answers that keep only where something ends, and loops over rows that keep nothing else.
use mathlib.Core.Path.{◌≡◌, refl, sym, ap, ◌∙◌}
use Prim.Native.Nat.{ℕ, ◌-◌, ◌≤◌, ◌<◌}
use native.Mathlib.Omega.{arith}
use mathlib.Core.List.{List}
use lib.ListN.{drop}
use Rattle.bsii_format.specs.Reader.{Result, ok, fault, Reader, repeat, ◌<$>◌}
use Rattle.bsii_format.proofs.Readers.{Exact}
use Rattle.bsii_format.proofs.Positions.{moved, ended, ended_ok, ended_fault, ended_map, repeat_none, repeat_step, repeat_stop}
use Rattle.bsii_string.specs.Answers.{fault_is, refusal_is, end_of}
use Rattle.bsii_string.specs.declared.answers.Refusal.{Refusal}
use Rattle.std.specs.Prelude.{Ok, Err, Result as Outcome}

pub end_ended : {A : Type 0} (q : Result A) → end_of q ≡ end_of (ended q)
unfolding end_of ended
end_ended (ok a at s) = refl
end_ended (fault f) = refl

-- results that end alike give one answer
pub alike : {A B : Type 0} (p : Result A) (q : Result B) → ended p ≡ ended q → end_of p ≡ end_of q
alike p q e = end_ended p ∙ ap end_of e ∙ sym (end_ended q)

pub answer : {A : Type 0} (q : Result A) (x : Result (Unit {0})) → ended q ≡ x → end_of x ≡ end_of q
answer q x e = sym (end_ended q ∙ ap end_of e)

pub mapped : {A B : Type 0} (f : A → B) (R : Reader A) (at : ℕ) (s : List ℕ) → end_of ((f <$> R) at s) ≡ end_of (R at s)
mapped f R at s = alike ((f <$> R) at s) (R at s) (ended_map f R at s)

pub next≢fault : {P : Type 0} {n : ℕ} {f : Refusal} → ◌≡◌ {A = Outcome ℕ Refusal} (Ok n) (Err f) → P
next≢fault e = let z : ◌≡◌ {A = ℕ} 0 1 = cc in let f : ⊥ = omega arith in absurd f

pub next_same : {a b : ℕ} → ◌≡◌ {A = Outcome ℕ Refusal} (Ok a) (Ok b) → a ≡ b
next_same e = cc

pub next_ended : {A : Type 0} {R : Reader A} → Exact A R → (s : List ℕ) (at : ℕ) {n : ℕ} → Ok n ≡ end_of (R at (drop at s)) → ended (R at (drop at s)) ≡ ok tt n (drop n s)
unfolding end_of ended
next_ended {A} {R} x s at {n} e = go (R at (drop at s)) refl e
  where
    go : (q : Result A) → R at (drop at s) ≡ q → Ok n ≡ end_of q → ended q ≡ ok tt n (drop n s)
    go (ok a i r) h k = let j : n ≡ i = cc in rw (j, (moved x s at h).rest)
    go (fault f) h k = next≢fault k

pub fault_ended : {A : Type 0} (q : Result A) {f : Refusal} → Err f ≡ end_of q → ended q ≡ fault (fault_is f)
unfolding end_of ended
fault_ended (ok a i r) e = next≢fault (sym e)
fault_ended (fault x) {f} e = let a : f ≡ refusal_is x = cc in ap (λ (f : Refusal). fault (fault_is f)) (sym a)

-- what an answer says of the reader itself
pub next_ok : {A : Type 0} {R : Reader A} → Exact A R → (s : List ℕ) (at : ℕ) {n : ℕ} → Ok n ≡ end_of (R at (drop at s)) → (v : A) × (R at (drop at s) ≡ ok v n (drop n s))
next_ok {R = R} x s at e = ended_ok (R at (drop at s)) (next_ended x s at e)

pub fault_at_law : {A : Type 0} (q : Result A) {f : Refusal} → Err f ≡ end_of q → q ≡ fault (fault_is f)
fault_at_law q e = ended_fault q (fault_ended q e)

-- ---- a loop over a row counts down: the rest of the row from here ends as the whole row does

module _ {A : Type 0} (R : Reader A) (s : List ℕ) (left at : ℕ) where
  pub row_done : left ≤ 0 → Ok at ≡ end_of (repeat left R at (drop at s))
  unfolding end_of
  row_done h = answer (repeat left R at (drop at s)) (ok tt at (drop at s)) (repeat_none R left at (drop at s) h)

  pub row_next : Exact A R → {n : ℕ} → 0 < left → Ok n ≡ end_of (R at (drop at s)) → end_of (repeat (left - 1) R n (drop n s)) ≡ end_of (repeat left R at (drop at s))
  row_next x {n} h e =
      alike (repeat (left - 1) R n (drop n s)) (repeat left R at (drop at s)) (sym (repeat_step R left at (drop at s) h (next_ended x s at e)))

  pub row_fault : {f : Refusal} → 0 < left → Err f ≡ end_of (R at (drop at s)) → Err f ≡ end_of (repeat left R at (drop at s))
  unfolding end_of
  row_fault {f} h e =
      answer (repeat left R at (drop at s)) (fault (fault_is f)) (repeat_stop R left at (drop at s) h (fault_ended (R at (drop at s)) e))
