-- One reader follows another if it ends where that one does, wherever that one accepts. K says how the two values are related: by `Same` they
-- are equal, by `Any` only the end counts. So what was accepted once may be read again without its checks.
use mathlib.Core.Path.{◌≡◌, refl, sym, ap, ap₂, ◌∙◌, subst}
use Prim.Native.Nat.{ℕ, zero, suc, ◌-◌}
use mathlib.Core.Bool.{Bool, true, false, cond}
use mathlib.Core.List.{List, [], ◌∷◌}
use lib.ListN.{take}
use Rattle.bsii_format.specs.declared.Cause.{Cause}
use Rattle.bsii_format.specs.Replies.{refused}
use Rattle.bsii_format.specs.Reader.{ok, fault_at, Reader, ◌>>=◌, success, fail, exhausted, ◌<$>◌, verify, Consumed, with, consumed, repeat}
use Rattle.bsii_format.proofs.Readers.{after_ok, cond_ok, map_ok, fault≢ok, ok_val, at_value}
use Rattle.bsii_format.proofs.Positions.{ended, bind_ok, map_value, consumed_ok}

pub record Follows {A B : Type 0} (K : A → B → Type 0) (R : Reader A) (S : Reader B) : Type 0 where
  pub reads : (at : ℕ) (s : List ℕ) {v : A} {n : ℕ} {r : List ℕ} → R at s ≡ ok v n r → (w : B) × (S at s ≡ ok w n r) × K v w

abbrev pub Same : {A : Type 0} → A → A → Type 0
Same a b = a ≡ b

abbrev pub Any : {A B : Type 0} → A → B → Type 0
Any a b = Unit {0}

-- ---- what it says of an accepted value

pub again : {A : Type 0} {R S : Reader A} → Follows Same R S → (at : ℕ) (s : List ℕ) {v : A} {n : ℕ} {r : List ℕ} → R at s ≡ ok v n r → S at s ≡ ok v n r
again h at s {n = n} {r = r} e = let q = h.reads at s e in q.1 ∙ ap (λ a. ok a n r) (sym q.2)

pub itself : {A : Type 0} (R : Reader A) → Follows Same R R
itself R = record { reads = λ at s {v} e. (v, e, refl) }

module _ {A B : Type 0} {K : A → B → Type 0} {R : Reader A} {S : Reader B} (h : Follows K R S) where
  pub ends : (at : ℕ) (s : List ℕ) {v : A} {n : ℕ} {r : List ℕ} → R at s ≡ ok v n r → ended (S at s) ≡ ok tt n r
  unfolding ended
  ends at s e = ap ended (h.reads at s e).1

  pub any : Follows Any R S
  any = record { reads = λ at s e. let q = h.reads at s e in (q.0, q.1, tt) }

  -- what is kept of a value changes no end, on either side
  pub map_follows : {C : Type 0} (f : A → C) → Follows Any (f <$> R) S
  map_follows f = record { reads = λ at s e. any.reads at s (map_ok f R at s e).2 }

  pub follows_map : {C : Type 0} (g : B → C) → Follows Any R (g <$> S)
  follows_map g = record { reads = λ at s e. let q = h.reads at s e in (g q.0, map_value g S q.1, tt) }

  pub consumed_follows : Follows Any (consumed R) S
  unfolding consumed
  consumed_follows = record {
    reads = λ at s e.
        let q = after_ok (R at s) (λ a i t. ok (with a (take (i - at) s)) i t) e in
        any.reads at s (q.3 ∙ at_value q.0 q.4);
  }

  -- a test refuses, and changes nothing
  pub verify_follows : (p : A → Bool) (c : Cause) → Follows K (verify p c R) S
  unfolding verify
  verify_follows p c = record {
    reads = λ at s e.
        let q = after_ok (R at s) (λ a i t. cond (p a) (ok a i t) (fault_at c at)) e in
        h.reads at s (q.3 ∙ (cond_ok (p q.0) (ok q.0 q.1 q.2) (refused c at) q.4).1);
  }

  pub bind_follows : {C D : Type 0} {L : C → D → Type 0} {f : A → Reader C} {g : B → Reader D} → ((a : A) (b : B) → K a b → Follows L (f a) (g b))
      → Follows L (R >>= f) (S >>= g)
  unfolding ◌>>=◌
  bind_follows {f = f} {g = g} k = record {
    reads = λ at s e.
        let q = after_ok (R at s) f e in
        let p = h.reads at s q.3 in
        let t = (k q.0 p.0 p.2).reads q.1 q.2 q.4 in
        (t.0, bind_ok S g p.1 ∙ t.1, t.2);
  }

pub consumed_same : {A : Type 0} {R S : Reader A} → Follows Same R S → Follows Same (consumed R) (consumed S)
unfolding consumed
consumed_same {R = R} {S} h = record {
  reads = λ at s {v} e.
      let q = after_ok (R at s) (λ a i t. ok (with a (take (i - at) s)) i t) e in
      (v, consumed_ok S (again h at s q.3) ∙ q.4, refl);
}

pub bind_same : {A C D : Type 0} {R S : Reader A} {L : C → D → Type 0} {f : A → Reader C} {g : A → Reader D} → Follows Same R S → ((a : A) → Follows L (f a) (g a))
    → Follows L (R >>= f) (S >>= g)
bind_same {L = L} {f = f} {g = g} h k = bind_follows h (λ a b e. subst (λ b. Follows L (f a) (g b)) e (k a))

module _ {A B : Type 0} {K : A → B → Type 0} where
  pub success_follows : (a : A) (b : B) → K a b → Follows K (success a) (success b)
  unfolding success
  success_follows a b k = record { reads = λ at s e. (b, at_value b e, subst (λ a. K a b) (ok_val e) k) }

  pub fail_follows : (c : Cause) (S : Reader B) → Follows K (fail c) S
  unfolding fail
  fail_follows c S = record { reads = λ at s e. fault≢ok e }

  pub exhausted_follows : (n : ℕ) (S : Reader B) → Follows K (exhausted n) S
  unfolding exhausted
  exhausted_follows n S = record { reads = λ at s e. fault≢ok e }

  pub cond_follows : (b : Bool) {R R' : Reader A} {S S' : Reader B} → Follows K R S → Follows K R' S' → Follows K (cond b R R') (cond b S S')
  cond_follows true h k = h
  cond_follows false h k = k

-- rows, whose values are related by L if their elements' are by K
rows : {A B : Type 0} {K : A → B → Type 0} {L : List A → List B → Type 0} {R : Reader A} {S : Reader B} → L [] []
    → ((a : A) (b : B) (l : List A) (m : List B) → K a b → L l m → L (a ∷ l) (b ∷ m)) → Follows K R S → (n : ℕ) → Follows L (repeat n R) (repeat n S)
unfolding repeat
rows none more h zero = success_follows [] [] none
rows none more h (suc n) = bind_follows h (λ a b k. bind_follows (rows none more h n) (λ l m e. success_follows (a ∷ l) (b ∷ m) (more a b l m k e)))

pub repeat_same : {A : Type 0} (n : ℕ) {R S : Reader A} → Follows Same R S → Follows Same (repeat n R) (repeat n S)
repeat_same {A} n h = rows refl (λ a b l m d e. ap₂ (λ (a : A) (l : List A). a ∷ l) d e) h n

pub repeat_follows : {A B : Type 0} {K : A → B → Type 0} (n : ℕ) {R : Reader A} {S : Reader B} → Follows K R S → Follows Any (repeat n R) (repeat n S)
repeat_follows n h = rows tt (λ a b l m d e. tt) h n
