-- Where the elements of an array stand: the i-th one where i elements end.
use mathlib.Core.Path.{◌≡◌, refl, sym, ap, ◌∙◌, subst}
use Prim.Native.Nat.{ℕ, zero, suc, ◌+◌, ◌-◌, ◌≤◌, ◌<◌}
use native.Mathlib.Omega.{arith}
use mathlib.Core.Option.{none, some}
use mathlib.Core.List.{List, [], ◌∷◌}
use lib.ListN.{length, drop, get_elem?}
use Rattle.bsii_format.specs.Reader.{ok, Reader, Consumed, consumed, repeat}
use Rattle.bsii_format.specs.Calls.{Placed, placed}
use Rattle.bsii_format.proofs.Readers.{Exact}
use Rattle.bsii_format.proofs.Positions.{step, ended, repeat_none, repeat_step}
use Rattle.bsii_string.proofs.NumbersAt.{split}

abbrev pub at_offset : {A : Type 0} → ℕ → A → Placed A
at_offset p x = record { offset = p; it = x }

abbrev pub extent : {A : Type 0} → Consumed A → ℕ
extent x = length x.raw

pub absent_past : {A : Type 0} (f : A → ℕ) (at : ℕ) (l : List A) (i : ℕ) → length l ≤ i → get_elem? (placed f at l) i ≡ none
unfolding placed
absent_past f at [] i h = refl
absent_past f at (a ∷ l) zero h = absurd (omega arith)
absent_past f at (a ∷ l) (suc i) h = absent_past f (at + f a) l i (omega arith)

-- the i-th of the elements l that R read from the position `at` on
pub record PlacedElement (A : Type 0) (R : Reader A) (s : List ℕ) (at : ℕ) (l : List (Consumed A)) (i : ℕ) : Type 0 where
  pub start : ℕ
  pub it : Consumed A
  pub next : ℕ
  pub found : get_elem? (placed extent at l) i ≡ some (at_offset start it)
  pub reads : R start (drop start s) ≡ ok it.value next (drop next s)
  pub long : length it.raw ≡ next - start
  pub passed : ended (repeat i R at (drop at s)) ≡ ok tt start (drop start s)

pub standing : {A : Type 0} {R : Reader A} → Exact A R → (s : List ℕ) (n at : ℕ) {l : List (Consumed A)} {e : ℕ} {r : List ℕ}
    → repeat n (consumed R) at (drop at s) ≡ ok l e r → (i : ℕ) → i < n → PlacedElement A R s at l i
unfolding placed ended
standing x s zero at h i k = absurd (omega arith)
standing {A} {R} x s (suc n) at {l} h zero k =
    let p = split n (consumed R) at (drop at s) h in
    let t = step x s at p.front in
    subst (λ (l : List (Consumed A)). PlacedElement A R s at l 0) p.whole
    (record {
      start = at;
      it = p.first;
      next = p.next;
      found = refl;
      reads = t.reads;
      long = omega (arith, t.place);
      passed = repeat_none R 0 at (drop at s) (omega arith);
    })
standing {A} {R} x s (suc n) at {l} {e} {r} h (suc i) k =
    let p = split n (consumed R) at (drop at s) h in
    let t = step x s at p.front in
    let y = standing x s n p.next (ap (λ (t : List ℕ). repeat n (consumed R) p.next t) (sym t.behind) ∙ p.back) i (omega arith) in
    let one : suc i - 1 ≡ i = omega arith in
    subst (λ (l : List (Consumed A)). PlacedElement A R s at l (suc i)) p.whole
    (record {
      start = y.start;
      it = y.it;
      next = y.next;
      found = ap (λ (j : ℕ). get_elem? (placed extent j p.others) i) (sym t.place) ∙ y.found;
      reads = y.reads;
      long = y.long;
      passed =
          repeat_step R (suc i) at (drop at s) (omega arith) (ap ended t.reads)
          ∙ ap (λ (j : ℕ). ended (repeat j R p.next (drop p.next s))) one
          ∙ y.passed;
    })
