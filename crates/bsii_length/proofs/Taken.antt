-- What is known of a value that a reader took from bytes within the length limit, and of how many bytes it took.
use mathlib.Core.Path.{◌≡◌, refl, sym, ap, ◌∙◌, subst}
use Prim.Native.Nat.{ℕ, zero, suc, ◌+◌, ◌^◌, ◌≤◌, ◌<◌}
use native.Mathlib.Nat.{add-zero, zero-add, pow-suc, pow-le-pow_right}
use native.Mathlib.Omega.{arith}
use mathlib.Core.Bool.{Bool, true, false, cond}
use mathlib.Core.List.{List, [], ◌∷◌}
use lib.ListN.{length, take, drop, get_or, length-drop}
use lib.Seq.{get_or-drop, length-take-le}
use lib.Dec.{leb, leb→le}
use Rattle.bsii_format.specs.declared.Cause.{Cause}
use Rattle.bsii_format.specs.Replies.{not_utf8}
use Rattle.bsii_format.specs.Reader.{ok, fault_at, Reader, after, ◌>>=◌, success, fail, ◌<$>◌, bytes, exhausted, verify, Consumed, consumed, repeat}
use Rattle.bsii_format.specs.Numbers.{little_endian, number}
use Rattle.bsii_format.specs.Utf8.{utf8}
use Rattle.bsii_format.specs.Strings.{str_parser}
use Rattle.bsii_format.specs.File.{length_limit}
use Rattle.bsii_format.proofs.Readers.{fault≢ok, ok_move, after_ok, cond_ok}

-- what a slice's elements are
abbrev pub Bytes : List ℕ → Type 0
Bytes s = (i : ℕ) → get_or s i 0 < 256

pub record Input (s : List ℕ) : Type 0 where
  pub bytes : Bytes s
  pub short : length s ≤ length_limit

-- v was taken from the front of s, in n bytes, and r is left
pub record Taken (A : Type 0) (P : A → ℕ → Type 0) (s : List ℕ) (v : A) (r : List ℕ) : Type 0 where
  pub size : ℕ
  pub long : length s ≡ size + length r
  pub rest : Input r
  pub holds : P v size

-- P holds of whatever R takes of an input, and of its number of bytes
pub record Takes (A : Type 0) (R : Reader A) (P : A → ℕ → Type 0) : Type 0 where
  pub taken : (at : ℕ) (s : List ℕ) (v : A) (at' : ℕ) (r : List ℕ) → Input s → R at s ≡ ok v at' r → Taken A P s v r

-- ---- combinators

pub after_taken : {A B : Type 0} {P : A → ℕ → Type 0} {Q : B → ℕ → Type 0} {R : Reader A} (f : A → Reader B) → Takes A R P → (at : ℕ) (s : List ℕ)
    → ((a : A) (n : ℕ) → n ≤ length_limit → P a n → Takes B (f a) (λ b m. Q b (n + m))) → (w : B) (at' : ℕ) (r : List ℕ) → Input s → after (R at s) f ≡ ok w at' r → Taken B Q s w r
after_taken {R = R} f h at s k w at' r i e =
    let q = after_ok (R at s) f e in
    let x = h.taken at s q.0 q.1 q.2 i q.3 in
    let y = (k q.0 x.size (omega (arith, x.long, i.short)) x.holds).taken q.1 q.2 w at' r x.rest q.4 in
    record { size = x.size + y.size; long = omega (arith, x.long, y.long); rest = y.rest; holds = y.holds }

pub bind_takes : {A B : Type 0} {P : A → ℕ → Type 0} {Q : B → ℕ → Type 0} {R : Reader A} (f : A → Reader B) → Takes A R P
    → ((a : A) (n : ℕ) → n ≤ length_limit → P a n → Takes B (f a) (λ b m. Q b (n + m))) → Takes B (R >>= f) Q
unfolding ◌>>=◌
bind_takes f h k = record { taken = λ at s. after_taken f h at s k }

pub success_takes : {A : Type 0} {P : A → ℕ → Type 0} (a : A) → P a 0 → Takes A (success a) P
unfolding success
success_takes {A} {P} a p = record {
  taken = λ at s v at' r i e. ok_move (λ v at' r. Taken A P s v r) e (record { size = 0; long = sym (zero-add (length s)); rest = i; holds = p });
}

pub fail_takes : {A : Type 0} {P : A → ℕ → Type 0} (c : Cause) → Takes A (fail c) P
unfolding fail
fail_takes c = record { taken = λ at s v at' r i e. fault≢ok e }

pub exhausted_takes : {A : Type 0} {P : A → ℕ → Type 0} (n : ℕ) → Takes A (exhausted n) P
unfolding exhausted
exhausted_takes n = record { taken = λ at s v at' r i e. fault≢ok e }

pub map_takes : {A B : Type 0} {P : A → ℕ → Type 0} {Q : B → ℕ → Type 0} {R : Reader A} (f : A → B) → Takes A R P → ((a : A) (n : ℕ) → n ≤ length_limit → P a n → Q (f a) n)
    → Takes B (f <$> R) Q
unfolding ◌<$>◌
map_takes {Q = Q} f h k = bind_takes (λ a. success (f a)) h (λ a n l p. success_takes (f a) (subst (λ m. Q (f a) m) (sym (add-zero n)) (k a n l p)))

pub weaken : {A : Type 0} {P Q : A → ℕ → Type 0} {R : Reader A} → Takes A R P → ((a : A) (n : ℕ) → n ≤ length_limit → P a n → Q a n) → Takes A R Q
weaken h k = record {
  taken = λ at s v at' r i e.
      let x = h.taken at s v at' r i e in
      record { size = x.size; long = x.long; rest = x.rest; holds = k v x.size (omega (arith, x.long, i.short)) x.holds };
}

pub cond_takes : {A : Type 0} {P : A → ℕ → Type 0} (b : Bool) {R S : Reader A} → Takes A R P → Takes A S P → Takes A (cond b R S) P
cond_takes true h k = h
cond_takes false h k = k

pub verify_takes : {A : Type 0} {P : A → ℕ → Type 0} (p : A → Bool) (c : Cause) {R : Reader A} → Takes A R P → Takes A (verify p c R) P
unfolding verify
verify_takes p c {R} h = record {
  taken = λ at s v at' r i e.
      let q = after_ok (R at s) (λ a at₁ s₁. cond (p a) (ok a at₁ s₁) (fault_at c at)) e in
      h.taken at s v at' r i (q.3 ∙ (cond_ok (p q.0) (ok q.0 q.1 q.2) _ q.4).1);
}

pub consumed_takes : {A : Type 0} {P : A → ℕ → Type 0} {R : Reader A} → Takes A R P → Takes (Consumed A) (consumed R) (λ w n. P w.value n)
unfolding consumed
consumed_takes {A} {P} {R} h = record {
  taken = λ at s w at' r i e.
      let q = after_ok (R at s) _ e in
      let x = h.taken at s q.0 q.1 q.2 i q.3 in
      ok_move (λ w at' r. Taken (Consumed A) (λ w n. P w.value n) s w r) q.4 (record { size = x.size; long = x.long; rest = x.rest; holds = x.holds });
}

-- the items of a list, each with its number of bytes, and the sum of these
pub data Row (A : Type 0) (P : A → ℕ → Type 0) : List A → ℕ → Type 0 where
  nil : Row A P [] 0
  cons : {a : A} {n : ℕ} {l : List A} {m : ℕ} → P a n → Row A P l m → Row A P (a ∷ l) (n + m)

pub repeat_takes : {A : Type 0} {P : A → ℕ → Type 0} (n : ℕ) {R : Reader A} → Takes A R P → Takes (List A) (repeat n R) (λ l k. Row A P l k × (length l ≡ n))
unfolding repeat ◌<$>◌
repeat_takes zero h = success_takes [] (nil, refl)
repeat_takes (suc n) h =
    bind_takes _ h (λ a k l p. map_takes (λ l. a ∷ l) (repeat_takes n h) (λ l m z q. (cons p q.0, ap suc q.1)))

-- every item has a byte at least
pub row_long : {A : Type 0} {P : A → ℕ → Type 0} → ((a : A) (n : ℕ) → P a n → 1 ≤ n) → {l : List A} {n : ℕ} → Row A P l n → length l ≤ n
row_long h nil = omega arith
row_long h (cons {a = a} {n = n} p q) = omega (arith, h a n p, row_long h q)

pub data Every (A : Type 0) (P : A → Type 0) : List A → Type 0 where
  nil : Every A P []
  cons : {a : A} {l : List A} → P a → Every A P l → Every A P (a ∷ l)

pub each : {A : Type 0} {P : A → ℕ → Type 0} {Q : A → Type 0} → ((a : A) (n : ℕ) → P a n → Q a) → {l : List A} {n : ℕ} → Row A P l n → Every A Q l
each h nil = nil
each h (cons {a = a} {n = n} p q) = cons (h a n p) (each h q)

-- ---- bytes, numbers, strings

take_bytes : (n : ℕ) (s : List ℕ) → Bytes s → Bytes (take n s)
take_bytes zero s h i = omega arith
take_bytes (suc n) [] h i = omega arith
take_bytes (suc n) (x ∷ s) h zero = h 0
take_bytes (suc n) (x ∷ s) h (suc i) = take_bytes n s (λ j. h (suc j)) i

bytes_takes : (n : ℕ) → Takes (List ℕ) (bytes n) (λ v k. Bytes v × (length v ≡ n) × (k ≡ n) × (n ≤ length_limit))
unfolding bytes
bytes_takes n = record {
  taken = λ at s v at' r i e.
      let w = cond_ok (leb n (length s)) (ok (take n s) (at + n) (drop n s)) _ e in
      let l = leb→le n (length s) w.0 in
      ok_move (λ v at' r. Taken (List ℕ) (λ v k. Bytes v × (length v ≡ n) × (k ≡ n) × (n ≤ length_limit)) s v r) w.1 (record {
        size = n;
        long = rw length-drop (omega arith);
        rest = record { bytes = λ j. rw get_or-drop (i.bytes (n + j)); short = rw length-drop (omega (arith, i.short)) };
        holds = (take_bytes n s i.bytes, length-take-le n s l, refl, omega (arith, i.short));
      });
}

little_endian_below : (s : List ℕ) → Bytes s → little_endian s < 256 ^ length s
unfolding little_endian
little_endian_below [] h = omega arith
little_endian_below (x ∷ s) h = omega (arith, pow-suc 256 (length s), h 0, little_endian_below s (λ i. h (suc i)))

pub number_takes : (w : ℕ) → w ≤ 8 → Takes ℕ (number w) (λ v k. (v < 2 ^ 64) × (k ≡ w))
unfolding number
number_takes w h =
    map_takes little_endian (bytes_takes w)
    (λ v k l p.
    let z : 256 ^ length v ≤ 256 ^ 8 = pow-le-pow_right {n = 256} (omega arith) {i = length v} {j = 8} (omega (arith, p.1)) in
    (omega (arith, little_endian_below v p.0), p.2))

pub str_takes : Takes (List ℕ) str_parser (λ v k. (length v ≤ length_limit) × (1 ≤ k))
unfolding str_parser
str_takes = bind_takes _ (number_takes 4 (omega arith)) (λ n k l p. verify_takes utf8 not_utf8 (weaken (bytes_takes n) (λ v m z q. (omega (arith, q.1, q.3), omega (arith, p.1)))))
