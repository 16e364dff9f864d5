-- Results as their ends and a length: how a reader that is made of others is measured.
use mathlib.Core.Path.{◌≡◌, refl, sym, ap, ◌∙◌}
use Prim.Native.Nat.{ℕ, zero, suc, ◌+◌, ◌-◌, ◌≤◌, ◌<◌}
use native.Mathlib.Nat.{zero-add, add-zero, add_assoc}
use native.Mathlib.Numerals.{add-one}
use native.Mathlib.Omega.{arith}
use mathlib.Core.List.{List, ◌∷◌}
use lib.ListN.{take, drop}
use Rattle.bsii_format.specs.Reader.{Result, ok, fault, Reader, after, ◌>>=◌, success, ◌<$>◌, Consumed, with, consumed, repeat}
use Rattle.bsii_format.proofs.Readers.{Exact}
use Rattle.bsii_format.proofs.Positions.{moved}
use Rattle.bsii_string.specs.Answers.{fault_is, refusal_is}
use Rattle.bsii_string.specs.declared.answers.Refusal.{Refusal}
use Rattle.bsii_measure_string.specs.Measured.{long_at, measured, row_size}
use Rattle.bsii_measure_string.specs.declared.answers.Measured.{Measured}
use Rattle.std.specs.Prelude.{Err, Result as Outcome}

next≢fault : {P : Type 0} {n l : ℕ} {f : Refusal} → ◌≡◌ {A = Outcome Measured Refusal} (long_at n l) (Err f) → P
next≢fault e = let z : ◌≡◌ {A = ℕ} 0 1 = cc in let f : ⊥ = omega arith in absurd f

-- ---- what an answer says of the reader

pub record Read (A : Type 0) (size : A → ℕ) (q : Result A) (s : List ℕ) (n m : ℕ) : Type 0 where
  pub value : A
  pub reads : q ≡ ok value n (drop n s)
  pub long : m ≡ size value

pub measured_ok : {A : Type 0} {R : Reader A} → Exact A R → (size : A → ℕ) (s : List ℕ) (at : ℕ) {n long : ℕ} → long_at n long ≡ measured size (R at (drop at s)) → Read A size (R at (drop at s)) s n long
unfolding measured
measured_ok {A} {R} x size s at {n} {long} e = go (R at (drop at s)) refl e
  where
    go : (q : Result A) → R at (drop at s) ≡ q → long_at n long ≡ measured size q → Read A size q s n long
    go (ok a i r) h k =
        let p : ◌≡◌ {A = Measured} (record { at = n; long = long }) (record { at = i; long = size a }) = cc in
        let j : n ≡ i = ap (λ (m : Measured). m.at) p in
        record { value = a; reads = rw (j, (moved x s at h).rest); long = ap (λ (m : Measured). m.long) p }
    go (fault f) h k = next≢fault k

pub measured_fault : {A : Type 0} (size : A → ℕ) (q : Result A) {f : Refusal} → Err f ≡ measured size q → q ≡ fault (fault_is f)
unfolding measured
measured_fault size (ok a i r) e = next≢fault (sym e)
measured_fault size (fault x) {f} e = let a : f ≡ refusal_is x = cc in ap (λ (f : Refusal). fault (fault_is f)) (sym a)

-- a refusal is handed on whatever is measured
pub refused_too : {A B : Type 0} (size : A → ℕ) (size' : B → ℕ) (q : Result A) (p : Result B) → (x : (f : Refusal) → q ≡ fault (fault_is f) → p ≡ fault (fault_is f)) → {f : Refusal} → Err f ≡ measured size q → Err f ≡ measured size' p
unfolding measured
refused_too size size' q p x {f} e = sym (ap (measured size') (x f (measured_fault size q e)))

-- ---- one size for another

pub measured_map : {A B : Type 0} (size : B → ℕ) (f : A → B) (R : Reader A) (at : ℕ) (s : List ℕ) → measured size ((f <$> R) at s) ≡ measured (λ a. size (f a)) (R at s)
unfolding measured ◌<$>◌ ◌>>=◌ after success
measured_map {A} size f R at s = go (R at s)
  where
    go : (q : Result A) → measured size (after q (λ a. success (f a))) ≡ measured (λ a. size (f a)) q
    go (ok a i r) = refl
    go (fault x) = refl

pub measured_consumed : {A : Type 0} (size : A → ℕ) (R : Reader A) (at : ℕ) (s : List ℕ) → measured (λ (e : Consumed A). size e.value) (consumed R at s) ≡ measured size (R at s)
unfolding measured consumed after
measured_consumed {A} size R at s = go (R at s)
  where
    go : (q : Result A) → measured (λ (e : Consumed A). size e.value) (after q (λ a at' s'. ok (with a (take (at' - at) s)) at' s')) ≡ measured size q
    go (ok a i r) = refl
    go (fault x) = refl

pub measured_like : {A : Type 0} (size size' : A → ℕ) → ((a : A) → size a ≡ size' a) → (q : Result A) → measured size q ≡ measured size' q
unfolding measured
measured_like size size' h (ok a i r) = ap (λ n. long_at i n) (h a)
measured_like size size' h (fault x) = refl

pub sum_start : {A : Type 0} (line : ℕ → A → ℕ) {i : ℕ} → i ≡ 0 → (q : Result (List A)) → measured (λ l. 0 + row_size line i l) q ≡ measured (row_size line 0) q
sum_start line {i} h q = measured_like (λ l. 0 + row_size line i l) (row_size line 0) (λ l. zero-add (row_size line i l) ∙ ap (λ n. row_size line n l) h) q

-- ---- a loop over a row counts down and adds up: what was added so far and the rest of the row from here are the whole row

module _ {A : Type 0} (R : Reader A) (line : ℕ → A → ℕ) (s : List ℕ) (left at : ℕ) where
  pub sum_done : (i long : ℕ) → left ≤ 0 → long_at at long ≡ measured (λ l. long + row_size line i l) (repeat left R at (drop at s))
  unfolding measured repeat success row_size
  sum_done i long h = go left h
    where
      go : (n : ℕ) → n ≤ 0 → long_at at long ≡ measured (λ l. long + row_size line i l) (repeat n R at (drop at s))
      go zero h = ap (λ m. long_at at m) (sym (add-zero long))
      go (suc n) h = absurd (omega arith)

  pub sum_next : (i long : ℕ) {a : A} {n : ℕ} → 0 < left → R at (drop at s) ≡ ok a n (drop n s)
      → measured (λ l. long + line i a + row_size line (i + 1) l) (repeat (left - 1) R n (drop n s)) ≡ measured (λ l. long + row_size line i l) (repeat left R at (drop at s))
  sum_next i long {a} {n} h e = go left h
    where
      behind : (q : Result (List A)) → measured (λ l. long + line i a + row_size line (i + 1) l) q ≡ measured (λ l. long + row_size line i l) (after q (λ l. success (a ∷ l)))
      behind (ok l j r) = unfold measured after success row_size in ap (λ m. long_at j m) (rw add-one (add_assoc long (line i a) (row_size line (suc i) l)))
      behind (fault x) = unfold measured after in refl

      go : (m : ℕ) → 0 < m → measured (λ l. long + line i a + row_size line (i + 1) l) (repeat (m - 1) R n (drop n s)) ≡ measured (λ l. long + row_size line i l) (repeat m R at (drop at s))
      go zero h = absurd (omega arith)
      go (suc m) h =
          unfold repeat ◌>>=◌ ◌<$>◌ in
          let z : suc m - 1 ≡ m = omega arith in
          rw z (rw e (unfold after in behind (repeat m R n (drop n s))))

  pub sum_fault : (i long : ℕ) {f : Refusal} → 0 < left → R at (drop at s) ≡ fault (fault_is f) → Err f ≡ measured (λ l. long + row_size line i l) (repeat left R at (drop at s))
  sum_fault i long {f} h e = go left h
    where
      go : (m : ℕ) → 0 < m → Err f ≡ measured (λ l. long + row_size line i l) (repeat m R at (drop at s))
      go zero h = absurd (omega arith)
      go (suc m) h = unfold repeat ◌>>=◌ ◌<$>◌ in rw e (unfold after measured in refl)
