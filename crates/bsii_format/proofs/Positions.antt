-- Readers at a position of a file, and results without their values: what the proofs of the code share. A position may lie past the end,
-- where no byte is left.
use mathlib.Core.Path.{◌≡◌, refl, sym, ap, ap₂, ◌∙◌}
use Prim.Native.Nat.{ℕ, zero, suc, ◌+◌, ◌-◌, ◌*◌, ◌/◌, ◌≤◌, ◌<◌}
use native.Mathlib.Nat.{zero-add, suc-add, zero-mul, suc-mul, div-mul-le_self, lt-div-mul-add}
use native.Mathlib.Omega.{arith}
use mathlib.Core.Bool.{Bool, true, false}
use mathlib.Core.List.{List, [], ◌∷◌}
use lib.ListN.{length, take, drop, length-append, length-drop}
use lib.Seq.{drop-drop, drop-append_seam}
use lib.Dec.{leb, leb→le, le→leb}
use Rattle.bsii_format.specs.declared.Cause.{Cause}
use Rattle.bsii_format.specs.Replies.{Fault}
use Rattle.bsii_format.specs.Reader.{Result, ok, fault, Reader, fault_at, short_at, after, ◌>>=◌, success, ◌<$>◌, bytes, verify, Consumed, with, consumed, repeat}
use Rattle.bsii_format.specs.Numbers.{little_endian, number}
use Rattle.bsii_format.proofs.Readers.{Exact, consumed_took, consumed_exact, is_true, is_false, fault≢ok, fault_is_law, takes}

-- ---- a reader at a position leaves the file from a later position on

pub record Moved (s : List ℕ) (at at' : ℕ) (r : List ℕ) : Type 0 where
  pub rest : r ≡ drop at' s
  pub later : at ≤ at'
  -- what was taken lies inside the file
  pub taken : at' - at ≤ length s - at
  pub inside : at ≤ length s → at' ≤ length s

pub moved : {A : Type 0} {R : Reader A} → Exact A R → (s : List ℕ) (at : ℕ) {v : A} {at' : ℕ} {r : List ℕ} → R at (drop at s) ≡ ok v at' r → Moved s at at' r
moved x s at {v} {at'} {r} e =
    let t = x.took at (drop at s) v at' r e in
    let long : length s - at ≡ length t.0 + length r = sym (length-drop at s) ∙ ap length t.1.front ∙ length-append t.0 r in
    record {
      rest = sym (drop-append_seam t.0 r) ∙ ap (drop (length t.0)) (sym t.1.front) ∙ drop-drop (length t.0) at s ∙ ap (λ (n : ℕ). drop n s) (sym t.1.place);
      later = omega (arith, t.1.place);
      taken = omega (arith, t.1.place);
      inside = λ h. omega (arith, t.1.place);
    }

-- a value that is read with its bytes: they lie between its offset and the next
pub record Stepped (A : Type 0) (R : Reader A) (s : List ℕ) (at : ℕ) (a : Consumed A) (next : ℕ) (rest : List ℕ) : Type 0 where
  pub reads : R at (drop at s) ≡ ok a.value next (drop next s)
  pub behind : rest ≡ drop next s
  pub place : next ≡ at + length a.raw

pub step : {A : Type 0} {R : Reader A} → Exact A R → (s : List ℕ) (at : ℕ) {a : Consumed A} {next : ℕ} {rest : List ℕ} → consumed R at (drop at s) ≡ ok a next rest → Stepped A R s at a next rest
step {A} {R} x s at {a} {next} {rest} e =
    let t = consumed_took x at (drop at s) a next rest e in
    let m = (moved (consumed_exact x) s at e).rest in
    record {
      reads = ap (R at) t.front ∙ t.fit.reads at rest ∙ ap₂ (λ (i : ℕ) (r : List ℕ). ok a.value i r) (sym t.place) m;
      behind = m;
      place = t.place;
    }

-- ---- bytes and numbers at a position

pub bytes_whole : (n at : ℕ) (s : List ℕ) → n ≤ length s → bytes n at s ≡ ok (take n s) (at + n) (drop n s)
unfolding bytes
bytes_whole n at s h = rw (is_true (leb n (length s)) (le→leb n (length s) h))

pub bytes_lack : (n at : ℕ) (s : List ℕ) → length s < n → bytes n at s ≡ short_at at (n - length s)
unfolding bytes
bytes_lack n at s h = rw (is_false (leb n (length s)) (λ k. omega (arith, leb→le n (length s) k)))

pub bytes_at : (n : ℕ) (s : List ℕ) (at : ℕ) → n ≤ length s - at → bytes n at (drop at s) ≡ ok (take n (drop at s)) (at + n) (drop (at + n) s)
bytes_at n s at h = rw (bytes_whole n at (drop at s) (rw length-drop h), drop-drop n at s)

pub bytes_short : (n : ℕ) (s : List ℕ) (at : ℕ) → length s - at < n → bytes n at (drop at s) ≡ short_at at (n - (length s - at))
bytes_short n s at h = rw (bytes_lack n at (drop at s) (rw length-drop h), length-drop at s)

pub number_at_law : (w : ℕ) (s : List ℕ) (at : ℕ) → w ≤ length s - at → number w at (drop at s) ≡ ok (little_endian (take w (drop at s))) (at + w) (drop (at + w) s)
unfolding number ◌<$>◌ ◌>>=◌ after success
number_at_law w s at h = rw (bytes_at w s at h)

pub number_short : (w : ℕ) (s : List ℕ) (at : ℕ) → length s - at < w → number w at (drop at s) ≡ short_at at (w - (length s - at))
unfolding number ◌<$>◌ ◌>>=◌ after
number_short w s at h = rw (bytes_short w s at h)

-- ---- one reader after another, where the first one's result is known

module _ {A B : Type 0} (R : Reader A) (f : A → Reader B) {at : ℕ} {s : List ℕ} where
  pub bind_ok : {a : A} {at' : ℕ} {s' : List ℕ} → R at s ≡ ok a at' s' → (R >>= f) at s ≡ f a at' s'
  unfolding ◌>>=◌ after
  bind_ok e = rw e

  pub bind_fault : {x : Fault} → R at s ≡ fault x → (R >>= f) at s ≡ fault x
  unfolding ◌>>=◌ after
  bind_fault e = rw e

pub map_value : {A B : Type 0} (f : A → B) (R : Reader A) {at : ℕ} {s : List ℕ} {a : A} {at' : ℕ} {s' : List ℕ} → R at s ≡ ok a at' s' → (f <$> R) at s ≡ ok (f a) at' s'
unfolding ◌<$>◌ ◌>>=◌ after success
map_value f R e = rw e

module _ {A : Type 0} (p : A → Bool) (c : Cause) (R : Reader A) {at : ℕ} {s : List ℕ} where
  pub verify_ok : {a : A} {at' : ℕ} {s' : List ℕ} → R at s ≡ ok a at' s' → p a ≡ true → verify p c R at s ≡ ok a at' s'
  unfolding verify after
  verify_ok e t = rw (e, t)

  pub verify_not : {a : A} {at' : ℕ} {s' : List ℕ} → R at s ≡ ok a at' s' → p a ≡ false → verify p c R at s ≡ fault_at c at
  unfolding verify after
  verify_not e t = rw (e, t)

  pub verify_fault : {x : Fault} → R at s ≡ fault x → verify p c R at s ≡ fault x
  unfolding verify after
  verify_fault e = rw e

pub consumed_ok : {A : Type 0} (R : Reader A) {at : ℕ} {s : List ℕ} {a : A} {at' : ℕ} {s' : List ℕ} → R at s ≡ ok a at' s' → consumed R at s ≡ ok (with a (take (at' - at) s)) at' s'
unfolding consumed after
consumed_ok R e = rw e

-- ---- results without values

unfoldable pub ended : {A : Type 0} → Result A → Result (Unit {0})
ended (ok a at s) = ok tt at s
ended (fault f) = fault f

-- a result that ends somewhere has a value; a fault stays the fault
pub ended_ok : {A : Type 0} (q : Result A) {n : ℕ} {r : List ℕ} → ended q ≡ ok tt n r → (v : A) × (q ≡ ok v n r)
unfolding ended
ended_ok (ok a i l) {n} {r} e = (a, let u : i ≡ n = cc in let w : l ≡ r = cc in rw (u, w))
ended_ok (fault x) e = fault≢ok e

pub ended_fault : {A : Type 0} (q : Result A) {x : Fault} → ended q ≡ fault x → q ≡ fault x
unfolding ended
ended_fault (ok a i l) e = fault≢ok (sym e)
ended_fault (fault y) e = let u : y ≡ _ = fault_is_law e in rw u

-- two sequences end alike if their first parts do and their second parts do, whatever the values
pub ended_after : {A B C D : Type 0} (p : Result A) (q : Result B) (f : A → Reader C) (g : B → Reader D)
    → ended p ≡ ended q → ((a : A) (b : B) (at : ℕ) (s : List ℕ) → ended (f a at s) ≡ ended (g b at s)) → ended (after p f) ≡ ended (after q g)
unfolding after ended
ended_after (ok a i r) (ok b j t) f g e h =
    let u : i ≡ j = cc in
    let w : r ≡ t = cc in
    h a b i r ∙ ap₂ (λ (k : ℕ) (l : List ℕ). ended (g b k l)) u w
ended_after (ok a i r) (fault y) f g e h = fault≢ok (sym e)
ended_after (fault x) (ok b j t) f g e h = fault≢ok e
ended_after (fault x) (fault y) f g e h = e

pub ended_bind : {A B C D : Type 0} (R : Reader A) (S : Reader B) (f : A → Reader C) (g : B → Reader D) (at : ℕ) (s : List ℕ)
    → ended (R at s) ≡ ended (S at s) → ((a : A) (b : B) (at : ℕ) (s : List ℕ) → ended (f a at s) ≡ ended (g b at s)) → ended ((R >>= f) at s) ≡ ended ((S >>= g) at s)
unfolding ◌>>=◌
ended_bind R S f g at s e h = ended_after (R at s) (S at s) f g e h

pub ended_map : {A B : Type 0} (f : A → B) (R : Reader A) (at : ℕ) (s : List ℕ) → ended ((f <$> R) at s) ≡ ended (R at s)
unfolding ◌<$>◌ ◌>>=◌ after success ended
ended_map {A} {B} f R at s = go (R at s)
  where
    go : (q : Result A) → ended (after q (λ a. success (f a))) ≡ ended q
    go (ok a i r) = refl
    go (fault x) = refl

pub ended_consumed : {A : Type 0} (R : Reader A) (at : ℕ) (s : List ℕ) → ended (consumed R at s) ≡ ended (R at s)
unfolding consumed after ended
ended_consumed {A} R at s = go (R at s)
  where
    go : (q : Result A) → ended (after q (λ a at' s'. ok (with a (take (at' - at) s)) at' s')) ≡ ended q
    go (ok a i r) = refl
    go (fault x) = refl

after_after : {A B C : Type 0} (q : Result A) (f : A → Reader B) (g : B → Reader C) → after (after q f) g ≡ after q (λ a. f a >>= g)
unfolding after ◌>>=◌
after_after (ok a i r) f g = refl
after_after (fault x) f g = refl

-- ---- rows of a reader

-- one more: the row's list is built of the values, which the end doesn't see
repeat_suc : {A : Type 0} (n : ℕ) (R : Reader A) (at : ℕ) (s : List ℕ) → ended (repeat (suc n) R at s) ≡ ended ((R >>= (λ a. repeat n R)) at s)
unfolding repeat ◌>>=◌ ◌<$>◌
repeat_suc n R at s = ended_bind R R _ _ at s refl (λ a b i r. ended_map (λ l. a ∷ l) (repeat n R) i r)

pub ended_repeat : {A B : Type 0} (n : ℕ) (R : Reader A) (S : Reader B) → ((at : ℕ) (s : List ℕ) → ended (R at s) ≡ ended (S at s)) → (at : ℕ) (s : List ℕ)
    → ended (repeat n R at s) ≡ ended (repeat n S at s)
unfolding repeat success ended
ended_repeat zero R S h at s = refl
ended_repeat (suc n) R S h at s =
    repeat_suc n R at s ∙ ended_bind R S _ _ at s (h at s) (λ a b i r. ended_repeat n R S h i r) ∙ sym (repeat_suc n S at s)

-- the three steps of a loop over a row, for any reader
module _ {A : Type 0} (R : Reader A) where
  pub repeat_none : (n at : ℕ) (s : List ℕ) → n ≤ 0 → ended (repeat n R at s) ≡ ok tt at s
  unfolding repeat success ended
  repeat_none zero at s h = refl
  repeat_none (suc n) at s h = absurd (omega arith)

  pub repeat_step : (n at : ℕ) (s : List ℕ) {at' : ℕ} {s' : List ℕ} → 0 < n → ended (R at s) ≡ ok tt at' s' → ended (repeat n R at s) ≡ ended (repeat (n - 1) R at' s')
  unfolding ◌>>=◌ after ended
  repeat_step zero at s h e = absurd (omega arith)
  repeat_step (suc n) at s {at'} {s'} h e =
      let z : n ≡ suc n - 1 = omega arith in
      repeat_suc n R at s ∙ ended_after {B = Unit {0}} (R at s) (ok tt at' s') (λ a. repeat n R) (λ a. repeat n R) e (λ a b i r. refl)
      ∙ ap (λ (k : ℕ). ended (repeat k R at' s')) z

  pub repeat_stop : (n at : ℕ) (s : List ℕ) {x : Fault} → 0 < n → ended (R at s) ≡ fault x → ended (repeat n R at s) ≡ fault x
  unfolding ◌>>=◌ after ended
  repeat_stop zero at s h e = absurd (omega arith)
  repeat_stop (suc n) at s {x} h e =
      repeat_suc n R at s ∙ ended_after {B = Unit {0}} (R at s) (fault x) (λ a. repeat n R) (λ a. repeat n R) e (λ a b i r. refl)

  pub repeat_add : (m n at : ℕ) (s : List ℕ) → ended (repeat (m + n) R at s) ≡ ended ((repeat m R >>= (λ l. repeat n R)) at s)
  unfolding repeat success ◌>>=◌ after
  repeat_add zero n at s = ap (λ (k : ℕ). ended (repeat k R at s)) (zero-add n)
  repeat_add (suc m) n at s =
      ap (λ (k : ℕ). ended (repeat k R at s)) (suc-add m n)
      ∙ repeat_suc (m + n) R at s
      ∙ ended_bind R R (λ a. repeat (m + n) R) (λ a. repeat m R >>= (λ l. repeat n R)) at s refl (λ a b i r. repeat_add m n i r)
      ∙ ap ended (sym (after_after (R at s) (λ a. repeat m R) (λ l. repeat n R)))
      ∙ ended_after (after (R at s) (λ a. repeat m R)) (repeat (suc m) R at s) (λ l. repeat n R) (λ l. repeat n R) (sym (repeat_suc m R at s)) (λ a b i r. refl)

  -- n rows of m are one row of n * m
  pub repeat_repeat : (n m at : ℕ) (s : List ℕ) → ended (repeat n (repeat m R) at s) ≡ ended (repeat (n * m) R at s)
  unfolding repeat success ended
  repeat_repeat zero m at s = ap (λ (k : ℕ). ended (repeat k R at s)) (sym (zero-mul m))
  repeat_repeat (suc n) m at s =
      let k : m + n * m ≡ suc n * m = omega (arith, suc-mul n m) in
      repeat_suc n (repeat m R) at s
      ∙ ended_bind (repeat m R) (repeat m R) (λ l. repeat n (repeat m R)) (λ l. repeat (n * m) R) at s refl (λ a b i r. repeat_repeat n m i r)
      ∙ sym (repeat_add m (n * m) at s)
      ∙ ap (λ (k : ℕ). ended (repeat k R at s)) k

-- ---- rows of numbers

pub numbers_at_law : (n w : ℕ) (s : List ℕ) (at : ℕ) → n * w ≤ length s - at → ended (repeat n (number w) at (drop at s)) ≡ ok tt (at + n * w) (drop (at + n * w) s)
unfolding ended
numbers_at_law zero w s at h =
    let k : at ≡ at + 0 * w = omega (arith, zero-mul w) in
    repeat_none (number w) 0 at (drop at s) (omega arith) ∙ ap (λ (k : ℕ). ok tt k (drop k s)) k
numbers_at_law (suc n) w s at h =
    let m : suc n * w ≡ n * w + w = suc-mul n w in
    let one : suc n - 1 ≡ n = omega arith in
    let end : at + w + n * w ≡ at + suc n * w = omega arith in
    repeat_step (number w) (suc n) at (drop at s) (omega arith) (ap ended (number_at_law w s at (omega arith)))
    ∙ ap (λ (k : ℕ). ended (repeat k (number w) (at + w) (drop (at + w) s))) one
    ∙ numbers_at_law n w s (at + w) (omega arith)
    ∙ ap (λ (k : ℕ). ok tt k (drop k s)) end

-- the first number that runs out
pub numbers_short : (n w : ℕ) (s : List ℕ) (at : ℕ) → 0 < w → (length s - at) / w < n
    → ended (repeat n (number w) at (drop at s)) ≡ short_at (at + (length s - at) / w * w) (w - (length s - at - (length s - at) / w * w))
unfolding ended ◌>>=◌ after
numbers_short n w s at p h =
    let k = (length s - at) / w in
    let i = at + k * w in
    let low : k * w ≤ length s - at = div-mul-le_self (length s - at) w in
    let high : length s - at < k * w + w = lt-div-mul-add p in
    let parts : n ≡ k + (n - k) = omega arith in
    let there : w - (length s - i) ≡ w - (length s - at - k * w) = omega arith in
    ap (λ (m : ℕ). ended (repeat m (number w) at (drop at s))) parts
    ∙ repeat_add (number w) k (n - k) at (drop at s)
    ∙ ended_after {B = Unit {0}} (repeat k (number w) at (drop at s)) (ok tt i (drop i s)) (λ l. repeat (n - k) (number w)) (λ l. repeat (n - k) (number w)) (numbers_at_law k w s at low) (λ a b j r. refl)
    ∙ repeat_stop (number w) (n - k) i (drop i s) (omega arith) (ap ended (number_short w s i (omega arith)))
    ∙ ap (λ (m : ℕ). short_at i m) there

-- ---- a reader that refuses the empty file moves on, and stays inside

pub moved_on : {A : Type 0} {R : Reader A} → Exact A R → {f : Fault} → R 0 [] ≡ fault f → (s : List ℕ) (at : ℕ) {v : A} {at' : ℕ} {r : List ℕ}
    → R at (drop at s) ≡ ok v at' r → (at < at') × (at' ≤ length s)
moved_on {R = R} x z s at {v} {at'} {r} e =
    let t = x.took at (drop at s) v at' r e in
    let m = moved x s at e in
    let one : 1 ≤ length t.0 = takes R t.1.fits z in
    (omega (arith, t.1.place), omega (arith, t.1.place, m.taken))
