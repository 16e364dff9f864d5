-- What bytes appended to a reader's input change: nothing of a value that was read, nor of a refusal other than 3; an item that ran out lacks
-- that many fewer, or it is whole and the reader gets past it. A reader made of such readers is one, since it stops at the first fault met.
use mathlib.Core.Path.{◌≡◌, refl, sym, ap, ◌∙◌, subst}
use Prim.Native.Nat.{ℕ, zero, suc, ◌-◌, ◌≤◌, ◌<◌}
use native.Mathlib.Decide.{dec_lt}
use native.Mathlib.Omega.{arith}
use mathlib.Core.Bool.{Bool, true, false, cond, not}
use mathlib.Core.List.{List, [], ◌∷◌, ◌++◌, append_assoc}
use lib.ListN.{length, length-append}
use lib.Dec.{T, T_not}
use Rattle.bsii_format.specs.declared.Cause.{Cause}
use Rattle.bsii_format.specs.Replies.{malformed, same_cause, Fault}
use Rattle.bsii_format.specs.Reader.{Result, ok, fault, Reader, fault_at, short_at, after, ◌>>=◌, success, fail, ◌<$>◌, bytes, verify, Consumed, consumed, repeat}
use Rattle.bsii_format.proofs.Readers.{Exact, bytes_exact, consumed_exact}
use Rattle.bsii_format.proofs.Positions.{bytes_whole, bytes_lack, consumed_ok}

-- ---- the relations

-- what was read ends at the offset or behind it, or the item that ran out starts there or behind it
abbrev pub From : {A : Type 0} → ℕ → Result A → Type 0
From at (ok v n r) = at ≤ n
From at (fault f) = f.cause ≡ malformed → at ≤ f.offset

-- what comes in place of the fault f with the bytes t appended
pub record Cut (A : Type 0) (t : List ℕ) (f : Fault) (q : Result A) : Type 0 where
  pub final : (f.cause ≡ malformed → ⊥) → q ≡ fault f
  pub fewer : f.cause ≡ malformed → length t < f.lacking → q ≡ short_at f.offset (f.lacking - length t)
  pub enough : f.cause ≡ malformed → f.lacking ≤ length t → From (suc f.offset) q

abbrev pub Extended : {A : Type 0} → List ℕ → Result A → Result A → Type 0
Extended t (ok v n r) q = q ≡ ok v n (r ++ t)
Extended {A} t (fault f) q = Cut A t f q

pub record Extends (A : Type 0) (R : Reader A) : Type 0 where
  pub from : (at : ℕ) (s : List ℕ) → From at (R at s)
  pub extended : (at : ℕ) (s t : List ℕ) → Extended t (R at s) (R at (s ++ t))

-- ---- sequences

-- what goes on behind a value goes back to no earlier place
abbrev pub Onward : {A B : Type 0} → (A → Reader B) → Type 0
Onward {A} g = (a : A) (at : ℕ) (s : List ℕ) → From at (g a at s)

from_earlier : {A : Type 0} {i j : ℕ} (q : Result A) → i ≤ j → From j q → From i q
from_earlier (ok v n r) l h = omega arith
from_earlier (fault f) l h = λ e. omega (arith, h e)

pub from_after : {A B : Type 0} (i : ℕ) (q : Result A) (g : A → Reader B) → From i q → Onward g → From i (after q g)
unfolding after
from_after i (ok a n r) g h k = from_earlier (g a n r) h (k a n r)
from_after i (fault f) g h k = h

cut_after : {A B : Type 0} {t : List ℕ} {f : Fault} (q : Result A) (g : A → Reader B) → Cut A t f q → Onward g → Cut B t f (after q g)
unfolding after
cut_after {f = f} q g h k = record {
  final = λ e. rw (h.final e);
  fewer = λ e l. rw (h.fewer e l);
  enough = λ e l. from_after (suc f.offset) q g (h.enough e l) k;
}

-- behind a value that was read stand two readers, f over the bytes as they are and g over those with t appended
pub after_extended : {A B : Type 0} (t : List ℕ) (q p : Result A) (f g : A → Reader B) → Extended t q p
    → ((a : A) (n : ℕ) (r : List ℕ) → q ≡ ok a n r → Extended t (f a n r) (g a n (r ++ t))) → Onward g → Extended t (after q f) (after p g)
unfolding after
after_extended t (ok a n r) p f g h k l = rw h (k a n r refl)
after_extended t (fault x) p f g h k l = cut_after p g h l

-- ---- combinators

pub success_extends : {A : Type 0} (a : A) → Extends A (success a)
unfolding success
success_extends a = record { from = λ at s. omega arith; extended = λ at s t. refl }

-- a cause other than 3
abbrev pub Other : Cause → Type 0
Other c = T (not (same_cause c malformed))

-- a refusal by it, whose place is that of an earlier byte
pub refusal_extends : (A : Type 0) (c : Cause) (start : ℕ) → Other c → Extends A (λ at s. fault_at c start)
refusal_extends A c start h = record {
  from = λ at s e. other e;
  extended = λ at s t. record { final = λ k. refl; fewer = λ e. other e; enough = λ e. other e };
}
  where
    other : {P : Type 0} → c ≡ malformed → P
    other e = absurd (T_not (same_cause c malformed) h (subst (λ k. T (same_cause k malformed)) (sym e) tt))

pub fail_extends : (A : Type 0) (c : Cause) → Other c → Extends A (fail c)
unfolding fail
fail_extends A c h = record { from = λ at. (refusal_extends A c at h).from at; extended = λ at. (refusal_extends A c at h).extended at }

-- what comes behind R may know where R began
pub after_extends : {A B : Type 0} {R : Reader A} (f : ℕ → A → Reader B) → Extends A R → ((start : ℕ) (a : A) → Extends B (f start a))
    → Extends B (λ at s. after (R at s) (f at))
after_extends {R = R} f h k = record {
  from = λ at s. from_after at (R at s) (f at) (h.from at s) (λ a. (k at a).from);
  extended = λ at s t. after_extended t (R at s) (R at (s ++ t)) (f at) (f at) (h.extended at s t) (λ a n r e. (k at a).extended n r t) (λ a. (k at a).from);
}

pub bind_extends : {A B : Type 0} {R : Reader A} (f : A → Reader B) → Extends A R → ((a : A) → Extends B (f a)) → Extends B (R >>= f)
unfolding ◌>>=◌
bind_extends f h k = after_extends (λ start. f) h (λ start. k)

pub map_from : {A B : Type 0} (f : A → B) (R : Reader A) (at : ℕ) (s : List ℕ) → From at (R at s) → From at ((f <$> R) at s)
unfolding ◌<$>◌ ◌>>=◌
map_from f R at s h = from_after at (R at s) (λ a. success (f a)) h (λ a. (success_extends (f a)).from)

pub map_extended : {A B : Type 0} (f : A → B) (R S : Reader A) (at : ℕ) (s t : List ℕ) → Extended t (R at s) (S at (s ++ t))
    → Extended t ((f <$> R) at s) ((f <$> S) at (s ++ t))
unfolding ◌<$>◌ ◌>>=◌
map_extended f R S at s t h =
    after_extended t (R at s) (S at (s ++ t)) (λ a. success (f a)) (λ a. success (f a)) h (λ a n r e. (success_extends (f a)).extended n r t)
    (λ a. (success_extends (f a)).from)

pub map_extends : {A B : Type 0} (f : A → B) {R : Reader A} → Extends A R → Extends B (f <$> R)
map_extends f {R} h = record { from = λ at s. map_from f R at s (h.from at s); extended = λ at s t. map_extended f R R at s t (h.extended at s t) }

pub repeat_extends : {A : Type 0} (n : ℕ) {R : Reader A} → Extends A R → Extends (List A) (repeat n R)
unfolding repeat
repeat_extends zero h = success_extends []
repeat_extends (suc n) h = bind_extends _ h (λ a. bind_extends _ (repeat_extends n h) (λ l. success_extends (a ∷ l)))

pub cond_extends : {A : Type 0} (b : Bool) {R S : Reader A} → Extends A R → Extends A S → Extends A (cond b R S)
cond_extends true h k = h
cond_extends false h k = k

pub tested : {A : Type 0} (b : Bool) (a : A) (c : Cause) (start : ℕ) → Other c → Extends A (λ at s. cond b (ok a at s) (fault_at c start))
unfolding success
tested true a c start h = success_extends a
tested {A} false a c start h = refusal_extends A c start h

pub verify_extends : {A : Type 0} (p : A → Bool) (c : Cause) {R : Reader A} → Other c → Extends A R → Extends A (verify p c R)
unfolding verify
verify_extends p c o h = after_extends _ h (λ start a. tested (p a) a c start o)

-- ---- the combinators that see the bytes

exact_extended : {A : Type 0} {R : Reader A} → Exact A R → (at : ℕ) (s t : List ℕ) {v : A} {n : ℕ} {r : List ℕ} → R at s ≡ ok v n r
    → R at (s ++ t) ≡ ok v n (r ++ t)
exact_extended {R = R} x at s t {v} {n} {r} e =
    let k = x.took at s v n r e in
    ap (λ (l : List ℕ). R at (l ++ t)) k.1.front ∙ ap (R at) (append_assoc k.0 r t)
    ∙ k.1.fits.reads at (r ++ t) ∙ ap (λ i. ok v i (r ++ t)) (sym k.1.place)

-- the bytes that it keeps are those that were read, not what was appended
pub consumed_extended : {A : Type 0} {R : Reader A} → Exact A R → (at : ℕ) (s t : List ℕ) → Extended t (R at s) (R at (s ++ t))
    → Extended t (consumed R at s) (consumed R at (s ++ t))
consumed_extended {A} {R} x at s t h = go (R at s) refl h
  where
    go : (q : Result A) → R at s ≡ q → Extended t q (R at (s ++ t)) → Extended t (consumed R at s) (consumed R at (s ++ t))
    go (ok v n r) e k = rw (consumed_ok R e) (exact_extended (consumed_exact x) at s t (consumed_ok R e))
    go (fault f) e k = unfold consumed after in rw e (cut_after (R at (s ++ t)) _ k (λ a i r. omega arith))

pub consumed_extends : {A : Type 0} {R : Reader A} → Exact A R → Extends A R → Extends (Consumed A) (consumed R)
unfolding consumed
consumed_extends {R = R} x h = record {
  from = λ at s. from_after at (R at s) _ (h.from at s) (λ a i r. omega arith);
  extended = λ at s t. consumed_extended x at s t (h.extended at s t);
}

-- an item that ran out
bytes_cut : (n at : ℕ) (s t : List ℕ) → length s < n → Extended t (bytes n at s) (bytes n at (s ++ t))
bytes_cut n at s t h = rw (bytes_lack n at s h) (record {
  final = λ k. absurd (k refl);
  fewer = λ e l. bytes_lack n at (s ++ t) (rw length-append (omega arith)) ∙ ap (λ k. short_at at k) (rw length-append (omega arith));
  enough = λ e l. rw (bytes_whole n at (s ++ t) (rw length-append (omega arith))) (omega arith);
})

pub bytes_extends : (n : ℕ) → Extends (List ℕ) (bytes n)
bytes_extends n = record { from = λ at s. from at s (dec_lt (length s) n); extended = λ at s t. extended at s t (dec_lt (length s) n) }
  where
    from : (at : ℕ) (s : List ℕ) → Dec (length s < n) → From at (bytes n at s)
    from at s (yes h) = rw (bytes_lack n at s h) (λ e. omega arith)
    from at s (no h) = rw (bytes_whole n at s (omega arith)) (omega arith)

    extended : (at : ℕ) (s t : List ℕ) → Dec (length s < n) → Extended t (bytes n at s) (bytes n at (s ++ t))
    extended at s t (yes h) = bytes_cut n at s t h
    extended at s t (no h) = let e = bytes_whole n at s (omega arith) in rw e (exact_extended (bytes_exact n) at s t e)

-- ---- readers that go on while there is fuel

-- L reads R, and then K, which may go on with L and one less of fuel, from another state. Fuels of at least the bytes that are left are alike: R takes
-- one at least, and where there is none the item that is due runs out, with fuel or without.
pub record Loop (X A B : Type 0) (L : ℕ → X → Reader B) (R : X → Reader A) (K : X → ℕ → (X → Reader B) → A → Reader B) : Type 0 where
  pub stop : (x : X) (at : ℕ) (s : List ℕ) → L 0 x at s ≡ short_at at 4
  pub due : (x : X) (at : ℕ) → R x at [] ≡ short_at at 4
  pub step : (n : ℕ) (x : X) (at : ℕ) (s : List ℕ) → L (suc n) x at s ≡ after (R x at s) (K x at (L n))
  pub extends : (x : X) → Extends A (R x)
  pub less : (x : X) (at : ℕ) (s : List ℕ) (a : A) (n : ℕ) (r : List ℕ) → R x at s ≡ ok a n r → length r < length s
  pub onward : (x : X) (at : ℕ) (M : X → Reader B) → Onward M → Onward (K x at M)
  pub extended : (x : X) (at : ℕ) (M N : X → Reader B) (a : A) (n : ℕ) (r t : List ℕ) → ((y : X) → Extended t (M y n r) (N y n (r ++ t)))
      → Extended t (K x at M a n r) (K x at N a n (r ++ t))

module _ {X A B : Type 0} {L : ℕ → X → Reader B} {R : X → Reader A} {K : X → ℕ → (X → Reader B) → A → Reader B} (l : Loop X A B L R K) where
  pub loop_from : (n : ℕ) → Onward (L n)
  loop_from zero x at s = rw (l.stop x at s) (λ e. omega arith)
  loop_from (suc n) x at s = rw (l.step n x at s) (from_after at (R x at s) (K x at (L n)) ((l.extends x).from at s) (l.onward x at (L n) (loop_from n)))

  -- a round, also where no fuel is left
  round : (n : ℕ) (x : X) (at : ℕ) (s : List ℕ) → length s ≤ n → L n x at s ≡ after (R x at s) (K x at (L (n - 1)))
  unfolding after
  round zero x at [] h = rw (l.stop x at [], l.due x at)
  round zero x at (y ∷ s) h = absurd (omega arith)
  round (suc n) x at s h = l.step n x at s ∙ ap (λ (m : ℕ). after (R x at s) (K x at (L m))) (omega arith)

  -- a round over the bytes as they are and one over those with t appended, if the next ones are so related
  turn : (n m : ℕ) (x : X) (at : ℕ) (s t : List ℕ) → length s ≤ n → length (s ++ t) ≤ m
      → ((y : X) (i : ℕ) (r : List ℕ) → length r < length s → Extended t (L (n - 1) y i r) (L (m - 1) y i (r ++ t))) → Extended t (L n x at s) (L m x at (s ++ t))
  turn n m x at s t h k next =
      let on = loop_from (m - 1) in
      rw (round n x at s h, round m x at (s ++ t) k)
      (after_extended t (R x at s) (R x at (s ++ t)) (K x at (L (n - 1))) (K x at (L (m - 1))) ((l.extends x).extended at s t)
      (λ a i r e. l.extended x at (L (n - 1)) (L (m - 1)) a i r t (λ y. next y i r (l.less x at s a i r e))) (l.onward x at (L (m - 1)) on))

  pub loop_extended : (n m : ℕ) (x : X) (at : ℕ) (s t : List ℕ) → length s ≤ n → length (s ++ t) ≤ m → Extended t (L n x at s) (L m x at (s ++ t))
  loop_extended zero m x at s t h k = turn 0 m x at s t h k (λ y i r z. absurd (omega arith))
  loop_extended (suc n) m x at s t h k =
      let one : n ≡ suc n - 1 = omega arith in
      turn (suc n) m x at s t h k
      (λ y i r z. subst (λ (j : ℕ). Extended t (L j y i r) (L (m - 1) y i (r ++ t))) one
      (loop_extended n (m - 1) y i r t (omega arith) (omega (arith, length-append s t, length-append r t))))
