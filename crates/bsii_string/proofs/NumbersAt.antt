-- The numbers at a position: what a row that is read holds, and where each stands.
use mathlib.Core.Path.{◌≡◌, sym, ap, ap₂, ◌∙◌}
use Prim.Native.Nat.{ℕ, zero, suc, ◌+◌, ◌*◌, ◌<◌}
use native.Mathlib.Nat.{zero-mul, suc-mul}
use native.Mathlib.Omega.{arith}
use mathlib.Core.List.{List, ◌∷◌}
use lib.ListN.{length, take, drop, get_or}
use lib.Seq.{drop-drop}
use lib.Dec.{leb}
use Rattle.bsii_format.specs.Reader.{ok, Reader, bytes, success, repeat, ◌>>=◌}
use Rattle.bsii_format.specs.Numbers.{little_endian, number}
use Rattle.bsii_format.proofs.Readers.{repeat_exact, after_ok, map_ok, cond_ok, ok_val, ok_at, ok_rest}
use Rattle.bsii_format.proofs.Parsers.{number_exact}
use Rattle.bsii_string.specs.Answers.{num_of}
use Rattle.bsii_string.specs.NumbersAt.{or_zero, number_at, numbers_at}
use Rattle.bsii_string.specs.declared.answers.Refusal.{Refusal}
use Rattle.std.specs.Result.{MatchResult}
use Rattle.std.specs.Prelude.{Ok, Err, Result as Outcome}

pub value_of : (s : List ℕ) (n : Outcome (ℕ × ℕ) Refusal) {v : ℕ} {Gives : ℕ × ℕ → Type 0} → MatchResult n Gives (λ _. v ≡ 0)
    → ((x : ℕ × ℕ) → Gives x → v ≡ x.0) → v ≡ or_zero (num_of s n)
unfolding or_zero
value_of s (Ok x) e g = g x e
value_of s (Err f) e g = e

-- ---- rows of any reader

-- an accepted row of one more is its first element and an accepted row
pub record Split (A : Type 0) (n : ℕ) (R : Reader A) (at : ℕ) (s : List ℕ) (l : List A) (e : ℕ) (r : List ℕ) : Type 0 where
  pub first : A
  pub others : List A
  pub next : ℕ
  pub rest : List ℕ
  pub front : R at s ≡ ok first next rest
  pub back : repeat n R next rest ≡ ok others e r
  pub whole : first ∷ others ≡ l

pub split : {A : Type 0} (n : ℕ) (R : Reader A) (at : ℕ) (s : List ℕ) {l : List A} {e : ℕ} {r : List ℕ} → repeat (suc n) R at s ≡ ok l e r → Split A n R at s l e r
unfolding repeat ◌>>=◌ success
split {A} n R at s {l} {e} {r} h =
    let q = after_ok (R at s) _ h in
    let p = after_ok (repeat n R q.1 q.2) (λ l. success (q.0 ∷ l)) q.4 in
    record {
      first = q.0;
      others = p.0;
      next = q.1;
      rest = q.2;
      front = q.3;
      back = p.3 ∙ ap₂ (λ (i : ℕ) (t : List ℕ). ok p.0 i t) (ok_at p.4) (ok_rest p.4);
      whole = ok_val p.4;
    }

pub row_length : {A : Type 0} (n : ℕ) (R : Reader A) (at : ℕ) (s : List ℕ) {l : List A} {e : ℕ} {r : List ℕ} → repeat n R at s ≡ ok l e r → length l ≡ n
unfolding repeat success
row_length zero R at s h = ap length (sym (ok_val h))
row_length (suc n) R at s h =
    let p = split n R at s h in
    ap length (sym p.whole) ∙ ap suc (row_length n R p.next p.rest p.back)

-- ---- numbers

pub number_moves : (w : ℕ) (s : List ℕ) (at : ℕ) {v i : ℕ} {r : List ℕ} → number w at (drop at s) ≡ ok v i r → (i ≡ at + w) × (r ≡ drop (at + w) s)
unfolding number bytes
number_moves w s at e =
    let m = map_ok little_endian (bytes w) at (drop at s) e in
    let w' = cond_ok (leb w (length (drop at s))) (ok (take w (drop at s)) (at + w) (drop w (drop at s))) _ m.2 in
    (sym (ok_at w'.1), sym (ok_rest w'.1) ∙ drop-drop w at s)

pub number_is_law : (w : ℕ) (s : List ℕ) (at : ℕ) {v i : ℕ} {r : List ℕ} → number w at (drop at s) ≡ ok v i r → number_at w s at ≡ v
unfolding number_at or_zero
number_is_law w s at e = ap or_zero e

-- a row that is read ends behind its numbers
pub numbers_move : (n w : ℕ) (s : List ℕ) (at : ℕ) {l : List ℕ} {e : ℕ} {r : List ℕ} → repeat n (number w) at (drop at s) ≡ ok l e r → e ≡ at + n * w
unfolding repeat success
numbers_move zero w s at h = omega (arith, ok_at h, zero-mul w)
numbers_move (suc n) w s at {l} {e} {r} h =
    let p = split n (number w) at (drop at s) h in
    let m = number_moves w s at p.front in
    let x = numbers_move n w s (at + w) (ap₂ (λ (i : ℕ) (t : List ℕ). repeat n (number w) i t) (sym m.0) (sym m.1) ∙ p.back) in
    omega (arith, suc-mul n w)

-- a row that is read holds the numbers from its start on
pub numbers_are : (n w : ℕ) (s : List ℕ) (at : ℕ) {l : List ℕ} {e : ℕ} {r : List ℕ} → repeat n (number w) at (drop at s) ≡ ok l e r → numbers_at n w s at ≡ l
unfolding repeat success numbers_at
numbers_are zero w s at h = ok_val h
numbers_are (suc n) w s at {l} {e} {r} h =
    let p = split n (number w) at (drop at s) h in
    let m = number_moves w s at p.front in
    ap₂ (λ (v : ℕ) (t : List ℕ). v ∷ t) (number_is_law w s at p.front)
    (numbers_are n w s (at + w) (ap₂ (λ (i : ℕ) (t : List ℕ). repeat n (number w) i t) (sym m.0) (sym m.1) ∙ p.back))
    ∙ p.whole

-- the same, at any offset that is counted for the row's start
pub numbers_from : (n w at : ℕ) (s : List ℕ) {l : List ℕ} {e : ℕ} {r : List ℕ} → repeat n (number w) at s ≡ ok l e r → numbers_at n w s 0 ≡ l
numbers_from n w at s {l} {e} {r} h =
    let t = (repeat_exact n (number_exact w)).took at s l e r h in
    numbers_are n w s 0 (ap (repeat n (number w) 0) t.1.front ∙ t.1.fits.reads 0 r)

-- the j-th number stands j widths further
pub number_of : (n w : ℕ) (s : List ℕ) (at j : ℕ) → j < n → get_or (numbers_at n w s at) j 0 ≡ number_at w s (at + j * w)
unfolding numbers_at
number_of zero w s at j h = absurd (omega arith)
number_of (suc n) w s at zero h = let z : at ≡ at + 0 * w = omega (arith, zero-mul w) in ap (number_at w s) z
number_of (suc n) w s at (suc j) h =
    let z : at + w + j * w ≡ at + suc j * w = omega (arith, suc-mul j w) in
    number_of n w s (at + w) j (omega arith) ∙ ap (number_at w s) z
