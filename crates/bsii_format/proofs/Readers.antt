-- The laws of readers. `Exact` is the one property that the rest stands on: what a reader accepts it took from the front of the bytes, and
-- it would read the same from those bytes at any offset and in front of any others.
use mathlib.Core.Path.{◌≡◌, refl, sym, ap, ap₂, ◌∙◌, subst}
use Prim.Native.Nat.{ℕ, zero, suc, ◌+◌, ◌-◌, ◌≤◌, ◌<◌}
use native.Mathlib.Nat.{add_assoc, add-zero, zero-add}
use native.Mathlib.Omega.{arith}
use mathlib.Core.Bool.{Bool, true, false, cond, ◌&&◌}
use mathlib.Core.List.{List, [], ◌∷◌, ◌++◌, append_assoc, append-nil}
use lib.ListN.{length, take, drop, length-append, take-append-drop}
use lib.Seq.{take_at, drop_at, length-take-le}
use lib.Dec.{T, leb, eqb, leb→le, le→leb, eqb→eq, eqb_refl}
use Rattle.bsii_format.specs.declared.Cause.{Cause}
use Rattle.bsii_format.specs.Replies.{Fault}
use Rattle.bsii_format.specs.Reader.{Result, ok, fault, Reader, fault_at, after, ◌>>=◌, success, fail, ◌<$>◌, bytes, verify, Consumed, with, consumed, repeat, same, tag, WellFormed}

-- ---- the relations

-- R reads v from exactly the bytes c, wherever they stand and whatever follows
pub record Fits (A : Type 0) (R : Reader A) (v : A) (c : List ℕ) : Type 0 where
  pub reads : (b : ℕ) (t : List ℕ) → R b (c ++ t) ≡ ok v (b + length c) t

-- the bytes c are what R took of s
pub record Took (A : Type 0) (R : Reader A) (v : A) (c : List ℕ) (at : ℕ) (s : List ℕ) (at' : ℕ) (r : List ℕ) : Type 0 where
  pub front : s ≡ c ++ r
  pub place : at' ≡ at + length c
  pub fits : Fits A R v c

pub record Exact (A : Type 0) (R : Reader A) : Type 0 where
  pub took : (at : ℕ) (s : List ℕ) (v : A) (at' : ℕ) (r : List ℕ) → R at s ≡ ok v at' r → (c : List ℕ) × Took A R v c at s at' r

-- ---- results

pub fault≢ok : {A : Type 0} {P : Type 0} {v : A} {at : ℕ} {r : List ℕ} {f : Fault} → ◌≡◌ {A = Result A} (fault f) (ok v at r) → P
fault≢ok {A} {P} e = let z : ◌≡◌ {A = ℕ} 0 1 = cc in let f : ⊥ = omega arith in absurd f

pub ok_val : {A : Type 0} {v w : A} {at at' : ℕ} {r r' : List ℕ} → ◌≡◌ {A = Result A} (ok v at r) (ok w at' r') → v ≡ w
ok_val e = cc

pub ok_at : {A : Type 0} {v w : A} {at at' : ℕ} {r r' : List ℕ} → ◌≡◌ {A = Result A} (ok v at r) (ok w at' r') → at ≡ at'
ok_at e = cc

pub ok_rest : {A : Type 0} {v w : A} {at at' : ℕ} {r r' : List ℕ} → ◌≡◌ {A = Result A} (ok v at r) (ok w at' r') → r ≡ r'
ok_rest e = cc

-- where a result ends doesn't hang on its value
pub at_value : {A B : Type 0} (u : B) {v w : A} {i j : ℕ} {r t : List ℕ} → ◌≡◌ {A = Result A} (ok v i r) (ok w j t) → ◌≡◌ {A = Result B} (ok u i r) (ok u j t)
at_value u e = ap₂ (λ (i : ℕ) (r : List ℕ). ok u i r) (ok_at e) (ok_rest e)

pub fault_is_law : {A : Type 0} {f g : Fault} → ◌≡◌ {A = Result A} (fault f) (fault g) → f ≡ g
fault_is_law e = cc

-- what holds of one accepted result holds of an equal one
pub ok_move : {A : Type 0} (P : A → ℕ → List ℕ → Type 0) {v w : A} {at at' : ℕ} {r r' : List ℕ} → ◌≡◌ {A = Result A} (ok v at r) (ok w at' r') → P v at r → P w at' r'
ok_move P {v} {w} {at} {at'} {r} {r'} e p =
    subst (λ z. P z at' r') (ok_val e) (subst (λ z. P v z r') (ok_at e) (subst (λ z. P v at z) (ok_rest e) p))

-- an accepted sequence is an accepted first part and an accepted second
abbrev pub After : {A B : Type 0} → Result A → (A → Reader B) → B → ℕ → List ℕ → Type 0
After {A} q f w at r = (a : A) × (at₁ : ℕ) × (s₁ : List ℕ) × (q ≡ ok a at₁ s₁) × (f a at₁ s₁ ≡ ok w at r)

pub after_ok : {A B : Type 0} (q : Result A) (f : A → Reader B) {w : B} {at : ℕ} {r : List ℕ} → after q f ≡ ok w at r → After q f w at r
unfolding after
after_ok (ok a at₁ s₁) f e = (a, at₁, s₁, refl, e)
after_ok (fault x) f e = fault≢ok e

-- ---- tests

pub cond_ok : {A : Type 0} (b : Bool) (q : Result A) (f : Fault) {v : A} {at : ℕ} {r : List ℕ} → cond b q (fault f) ≡ ok v at r → T b × (q ≡ ok v at r)
cond_ok true q f e = (tt, e)
cond_ok false q f e = fault≢ok e

pub is_true : (b : Bool) → T b → b ≡ true
is_true true h = refl
is_true false h = absurd h

pub is_false : (b : Bool) → (T b → ⊥) → b ≡ false
is_false true h = absurd (h tt)
is_false false h = refl

-- ---- sequences

pub bind_fits : {A B : Type 0} {R : Reader A} (f : A → Reader B) {v : A} {w : B} {c d : List ℕ} → Fits A R v c → Fits B (f v) w d → Fits B (R >>= f) w (c ++ d)
unfolding ◌>>=◌ after
bind_fits {R = R} f {v} {w} {c} {d} h k =
    record { reads = λ b t. rw (append_assoc c d t, h.reads b (d ++ t), k.reads (b + length c) t, length-append c d, add_assoc b (length c) (length d)) }

pub bind_exact : {A B : Type 0} {R : Reader A} (f : A → Reader B) → Exact A R → ((a : A) → Exact B (f a)) → Exact B (R >>= f)
unfolding ◌>>=◌
bind_exact {R = R} f hR hf = record {
  took = λ at s w at' r e.
      let q = after_ok (R at s) f e in
      let x = hR.took at s q.0 q.1 q.2 q.3 in
      let y = (hf q.0).took q.1 q.2 w at' r q.4 in (
        x.0 ++ y.0,
        record {
          front = x.1.front ∙ ap (λ (l : List ℕ). x.0 ++ l) y.1.front ∙ sym (append_assoc x.0 y.0 r);
          place = rw length-append (omega (arith, x.1.place, y.1.place));
          fits = bind_fits f x.1.fits y.1.fits;
        },
      );
}

pub success_fits : {A : Type 0} (v : A) → Fits A (success v) v []
unfolding success
success_fits v = record { reads = λ b t. rw (add-zero b) }

pub success_exact : {A : Type 0} (v : A) → Exact A (success v)
unfolding success
success_exact {A} v = record {
  took = λ at s w at' r e.
      ([], record { front = ok_rest e; place = rw add-zero (sym (ok_at e)); fits = subst (λ (x : A). Fits A (success v) x []) (ok_val e) (success_fits v) });
}

pub fail_exact : (A : Type 0) (c : Cause) → Exact A (fail c)
unfolding fail
fail_exact A c = record { took = λ at s v at' r e. fault≢ok e }

pub map_fits : {A B : Type 0} {R : Reader A} (f : A → B) {v : A} {c : List ℕ} → Fits A R v c → Fits B (f <$> R) (f v) c
unfolding ◌<$>◌
map_fits {A} {B} {R} f {v} {c} h = subst (λ (l : List ℕ). Fits B (f <$> R) (f v) l) (append-nil c) (bind_fits (λ a. success (f a)) h (success_fits (f v)))

pub map_exact : {A B : Type 0} (f : A → B) {R : Reader A} → Exact A R → Exact B (f <$> R)
unfolding ◌<$>◌
map_exact f h = bind_exact (λ a. success (f a)) h (λ a. success_exact (f a))

pub map_ok : {A B : Type 0} (f : A → B) (R : Reader A) (at : ℕ) (s : List ℕ) {w : B} {at' : ℕ} {r : List ℕ} → (f <$> R) at s ≡ ok w at' r
    → (v : A) × (f v ≡ w) × (R at s ≡ ok v at' r)
unfolding ◌<$>◌ ◌>>=◌ success
map_ok f R at s {w} {at'} {r} e =
    let q = after_ok (R at s) (λ a. success (f a)) e in
    (q.0, ok_val q.4, q.3 ∙ ap₂ (λ (i : ℕ) (l : List ℕ). ok q.0 i l) (ok_at q.4) (ok_rest q.4))

pub map_fault : {A B : Type 0} (f : A → B) (R : Reader A) (at : ℕ) (s : List ℕ) {x : Fault} → R at s ≡ fault x → (f <$> R) at s ≡ fault x
unfolding ◌<$>◌ ◌>>=◌ after
map_fault f R at s e = rw e

pub repeat_exact : {A : Type 0} (n : ℕ) {R : Reader A} → Exact A R → Exact (List A) (repeat n R)
unfolding repeat
repeat_exact zero h = success_exact []
repeat_exact (suc n) h = bind_exact _ h (λ a. bind_exact _ (repeat_exact n h) (λ l. success_exact (a ∷ l)))

pub cond_exact : {A : Type 0} (b : Bool) {R S : Reader A} → Exact A R → Exact A S → Exact A (cond b R S)
cond_exact true h k = h
cond_exact false h k = k

-- ---- the combinators that see the bytes

pub verify_fits : {A : Type 0} (p : A → Bool) (n : Cause) {R : Reader A} {v : A} {c : List ℕ} → Fits A R v c → T (p v) → Fits A (verify p n R) v c
unfolding verify after
verify_fits p n {R} {v} {c} h e = record { reads = λ b t. rw (h.reads b t, is_true (p v) e) }

pub verify_exact : {A : Type 0} (p : A → Bool) (n : Cause) {R : Reader A} → Exact A R → Exact A (verify p n R)
unfolding verify
verify_exact {A} p n {R} h = record {
  took = λ at s v at' r e.
      let q = after_ok (R at s) (λ a at₁ s₁. cond (p a) (ok a at₁ s₁) (fault_at n at)) e in
      let w = cond_ok (p q.0) (ok q.0 q.1 q.2) _ q.4 in
      let x = h.took at s v at' r (q.3 ∙ w.1) in
      (x.0, record { front = x.1.front; place = x.1.place; fits = verify_fits p n x.1.fits (subst (λ (a : A). T (p a)) (ok_val w.1) w.0) });
}

pub consumed_fits : {A : Type 0} {R : Reader A} {v : A} {c : List ℕ} → Fits A R v c → Fits (Consumed A) (consumed R) (with v c) c
unfolding consumed after
consumed_fits {A} {R} {v} {c} h = record { reads = λ b t. rw (h.reads b t, take_at c t (b + length c - b) (omega arith)) }

-- what `consumed` kept is what R took
pub record Kept (A : Type 0) (R : Reader A) (w : Consumed A) (at : ℕ) (s : List ℕ) (at' : ℕ) (r : List ℕ) : Type 0 where
  pub fit : Fits A R w.value w.raw
  pub front : s ≡ w.raw ++ r
  pub place : at' ≡ at + length w.raw

pub consumed_took : {A : Type 0} {R : Reader A} → Exact A R → (at : ℕ) (s : List ℕ) (w : Consumed A) (at' : ℕ) (r : List ℕ)
    → consumed R at s ≡ ok w at' r → Kept A R w at s at' r
unfolding consumed
consumed_took {A} {R} h at s w at' r e =
    let q = after_ok (R at s) (λ a at₁ s₁. ok (with a (take (at₁ - at) s)) at₁ s₁) e in
    let x = h.took at s q.0 at' r (q.3 ∙ ap₂ (λ (i : ℕ) (l : List ℕ). ok q.0 i l) (ok_at q.4) (ok_rest q.4)) in
    let kept : take (q.1 - at) s ≡ x.0 =
    ap (take (q.1 - at)) x.1.front ∙ take_at x.0 r (q.1 - at) (omega (arith, x.1.place, ok_at q.4)) in
    subst (λ w. Kept A R w at s at' r) (ap (with q.0) (sym kept) ∙ ok_val q.4) (record { fit = x.1.fits; front = x.1.front; place = x.1.place })

pub consumed_exact : {A : Type 0} {R : Reader A} → Exact A R → Exact (Consumed A) (consumed R)
consumed_exact {A} {R} h = record {
  took = λ at s w at' r e.
      let x = consumed_took h at s w at' r e in
      (w.raw, record { front = x.front; place = x.place; fits = consumed_fits x.fit });
}

pub bytes_fits : (c : List ℕ) (n : ℕ) → length c ≡ n → Fits (List ℕ) (bytes n) c c
unfolding bytes
bytes_fits c n e = record {
  reads = λ b t.
      let l : T (leb n (length (c ++ t))) = le→leb n (length (c ++ t)) (rw length-append (omega arith)) in
      rw (is_true (leb n (length (c ++ t))) l, take_at c t n e, drop_at c t n e, e);
}

pub bytes_exact : (n : ℕ) → Exact (List ℕ) (bytes n)
unfolding bytes
bytes_exact n = record {
  took = λ at s v at' r e.
      let w = cond_ok (leb n (length s)) (ok (take n s) (at + n) (drop n s)) _ e in
      let len : length (take n s) ≡ n = length-take-le n s (leb→le n (length s) w.0) in (
        take n s,
        record {
          front = sym (take-append-drop n s) ∙ ap (λ (l : List ℕ). take n s ++ l) (ok_rest w.1);
          place = rw len (sym (ok_at w.1));
          fits = subst (λ (x : List ℕ). Fits (List ℕ) (bytes n) x (take n s)) (ok_val w.1) (bytes_fits (take n s) n len);
        },
      );
}

-- ---- equal bytes

pub and_left : (a b : Bool) → T (a && b) → T a
and_left true b h = tt
and_left false b h = h

pub and_right : (a b : Bool) → T (a && b) → T b
and_right true b h = h
and_right false b h = absurd h

pub and_both : (a b : Bool) → T a → T b → T (a && b)
and_both true b h k = k
and_both false b h k = h

pub same→eq : (s t : List ℕ) → T (same s t) → s ≡ t
unfolding same
same→eq [] [] h = refl
same→eq [] (y ∷ t) h = absurd h
same→eq (x ∷ s) [] h = absurd h
same→eq (x ∷ s) (y ∷ t) h =
    ap₂ (λ (a : ℕ) (l : List ℕ). a ∷ l) (eqb→eq x y (and_left (eqb x y) (same s t) h)) (same→eq s t (and_right (eqb x y) (same s t) h))

pub same_refl : (s : List ℕ) → T (same s s)
unfolding same
same_refl [] = tt
same_refl (x ∷ s) = and_both (eqb x x) (same s s) (eqb_refl x) (same_refl s)

pub tag_fits : (c : List ℕ) (n : Cause) → Fits (Unit {0}) (tag c n) tt c
unfolding tag
tag_fits c n = record {
  reads = λ b t.
      rw (take_at c t (length c) refl, drop_at c t (length c) refl, is_true (same c c) (same_refl c));
}

pub tag_exact : (c : List ℕ) (n : Cause) → Exact (Unit {0}) (tag c n)
unfolding tag
tag_exact c n = record {
  took = λ at s v at' r e.
      let w = cond_ok (same (take (length c) s) c) (ok tt (at + length c) (drop (length c) s)) _ e in (
        c,
        record {
          front = sym (take-append-drop (length c) s) ∙ ap₂ (λ (a b : List ℕ). a ++ b) (same→eq (take (length c) s) c w.0) (ok_rest w.1);
          place = sym (ok_at w.1);
          fits = tag_fits c n;
        },
      );
}

-- ---- well-formed bytes

-- bytes that are read whole by themselves are read wherever they stand
pub well_formed_fits : {A : Type 0} {R : Reader A} → Exact A R → {v : A} {c : List ℕ} → WellFormed R v c → Fits A R v c
well_formed_fits {A} {R} x {v} {c} e =
    let t = x.took 0 c v (length c) [] e in
    subst (λ z. Fits A R v z) (sym (t.1.front ∙ append-nil t.0)) t.1.fits

pub fits_well_formed : {A : Type 0} {R : Reader A} {v : A} {c : List ℕ} → Fits A R v c → WellFormed R v c
fits_well_formed {A} {R} {v} {c} h = ap (R 0) (sym (append-nil c)) ∙ h.reads 0 [] ∙ ap (λ n. ok v n []) (zero-add (length c))

-- a reader that refuses the empty file takes a byte at least
pub takes : {A : Type 0} (R : Reader A) {v : A} {c : List ℕ} {f : Fault} → Fits A R v c → R 0 [] ≡ fault f → 1 ≤ length c
takes R {c = []} h e = fault≢ok (sym e ∙ h.reads 0 [])
takes R {c = x ∷ c} h e = omega arith

-- and leaves fewer bytes than there were
pub shorter : {A : Type 0} {R : Reader A} → Exact A R → {f : Fault} → R 0 [] ≡ fault f → (at : ℕ) (s : List ℕ) (v : A) (n : ℕ) (r : List ℕ) → R at s ≡ ok v n r
    → length r < length s
shorter {R = R} x z at s v n r e =
    let k = x.took at s v n r e in
    omega (arith, takes R k.1.fits z, ap length k.1.front, length-append k.0 r)
