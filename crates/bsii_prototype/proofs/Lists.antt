-- A list of definitions, an entry at a time. The fuel of the definition never shows: with as many steps as there are bytes left, or more,
-- the result is the same.
use mathlib.Core.Path.{◌≡◌, refl, sym, ap, ◌∙◌}
use Prim.Native.Nat.{ℕ, zero, suc, ◌+◌, ◌-◌, ◌≤◌, ◌<◌}
use native.Mathlib.Nat.{zero-add}
use native.Mathlib.Omega.{arith}
use mathlib.Core.Option.{Option, none, some}
use mathlib.Core.List.{List, [], ◌∷◌}
use lib.ListN.{length, take, drop}
use Rattle.bsii_format.specs.Replies.{Fault as Refused}
use Rattle.bsii_format.specs.Reader.{Result, ok, fault, short_at, Reader, after, ◌>>=◌, success, exhausted, ◌<$>◌, Consumed, with, consumed}
use Rattle.bsii_format.specs.Prototypes.{ValuePrototype, Fields as FieldList, cons_field, fields_then}
use Rattle.bsii_format.proofs.Readers.{Exact, consumed_exact, shorter}
use Rattle.bsii_format.proofs.Positions.{moved, moved_on}
use Rattle.bsii_string.specs.Answers.{refusal_is}
use Rattle.bsii_string.specs.declared.answers.Refusal.{Refusal}
use Rattle.bsii_prototype.specs.Entries.{entry_with, fields_from_with, fields_with}
use Rattle.bsii_prototype.specs.declared.answers.Counted.{Counted}
use Rattle.bsii_prototype.specs.Answers.{entry_of, counted, count_of}
use Rattle.bsii_prototype.specs.declared.answers.Entry.TheVariants.{Field, Last}
use Rattle.bsii_prototype.proofs.Entries.{entry_none, entry_exact, field_is_law, last_is_law, bad_is}
use Rattle.std.specs.Prelude.{Ok, Err, Result as Outcome}

-- what follows a result may be changed where it is the same behind that result
after_same : {A B : Type 0} (q : Result A) (f g : A → Reader B) → ((a : A) (n : ℕ) (r : List ℕ) → q ≡ ok a n r → f a n r ≡ g a n r) → after q f ≡ after q g
unfolding after
after_same (ok a n r) f g h = h a n r refl
after_same (fault x) f g h = refl

then_same : (P Q : Reader FieldList) (o : Option ValuePrototype) (l : List ℕ) (at : ℕ) (s : List ℕ) → P at s ≡ Q at s → fields_then P o l at s ≡ fields_then Q o l at s
unfolding fields_then ◌<$>◌ ◌>>=◌
then_same P Q none l at s e = refl
then_same P Q (some d) l at s e = ap (λ q. after q (λ a. success (cons_field (with d l) a))) e

pub consumed_ok : {A : Type 0} (R : Reader A) {at : ℕ} {s : List ℕ} {a : A} {n : ℕ} {r : List ℕ} → R at s ≡ ok a n r → consumed R at s ≡ ok (with a (take (n - at) s)) n r
unfolding consumed after
consumed_ok R e = rw e

consumed_fault : {A : Type 0} (R : Reader A) {at : ℕ} {s : List ℕ} {x : Refused} → R at s ≡ fault x → consumed R at s ≡ fault x
unfolding consumed after
consumed_fault R e = rw e

-- ---- fuel

module _ (S : Reader (List ℕ)) (x : Exact (List ℕ) S) where
  less : (at : ℕ) (s : List ℕ) (e : Consumed (Option ValuePrototype)) (n : ℕ) (r : List ℕ) → consumed (entry_with S) at s ≡ ok e n r → length r < length s
  less = shorter (consumed_exact (entry_exact x)) (consumed_fault (entry_with S) (entry_none S 0))

  empty : (n at : ℕ) → fields_from_with S n at [] ≡ short_at at 4
  unfolding fields_from_with exhausted ◌>>=◌ after
  empty zero at = refl
  empty (suc n) at = rw (consumed_fault (entry_with S) {at = at} (entry_none S at))

  spent : (n at : ℕ) (s : List ℕ) → length s ≤ 0 → fields_from_with S n at s ≡ short_at at 4
  spent n at [] h = empty n at
  spent n at (b ∷ s) h = absurd (omega arith)

  pub fuel : (n m at : ℕ) (s : List ℕ) → length s ≤ n → length s ≤ m → fields_from_with S n at s ≡ fields_from_with S m at s
  unfolding fields_from_with ◌>>=◌
  fuel zero m at s h k = spent 0 at s h ∙ sym (spent m at s h)
  fuel (suc n) zero at s h k = spent (suc n) at s k ∙ sym (spent 0 at s k)
  fuel (suc n) (suc m) at s h k =
      after_same (consumed (entry_with S) at s) _ _
      (λ e i r q. then_same (fields_from_with S n) (fields_from_with S m) e.value e.raw i r
      (fuel n m i r (omega (arith, less at s e i r q)) (omega (arith, less at s e i r q))))

  -- one step, at any position: past the end too
  pub fields_unfold : (at : ℕ) (s : List ℕ) → fields_with S at s ≡ after (consumed (entry_with S) at s) (λ e. fields_then (fields_with S) e.value e.raw)
  unfolding fields_with fields_from_with ◌>>=◌ after
  fields_unfold at [] = empty 0 at ∙ sym (ap (λ q. after q (λ e. fields_then (fields_with S) e.value e.raw)) (consumed_fault (entry_with S) {at = at} (entry_none S at)))
  fields_unfold at (b ∷ s) =
      after_same (consumed (entry_with S) at (b ∷ s)) _ _
      (λ e i r q. then_same (fields_from_with S (length s)) (fields_with S) e.value e.raw i r
      (fuel (length s) (length r) i r (omega (arith, less at (b ∷ s) e i r q)) (omega arith)))

  module _ (at : ℕ) (s : List ℕ) where
    pub fields_last : {n : ℕ} {r : List ℕ} → entry_with S at s ≡ ok none n r → fields_with S at s ≡ ok (record { fields = []; terminator = take (n - at) s }) n r
    unfolding after fields_then success
    fields_last e = fields_unfold at s ∙ ap (λ q. after q (λ e. fields_then (fields_with S) e.value e.raw)) (consumed_ok (entry_with S) e)

    pub fields_more : {d : ValuePrototype} {n : ℕ} {r : List ℕ} → entry_with S at s ≡ ok (some d) n r
        → fields_with S at s ≡ (cons_field (with d (take (n - at) s)) <$> fields_with S) n r
    unfolding after fields_then
    fields_more e = fields_unfold at s ∙ ap (λ q. after q (λ e. fields_then (fields_with S) e.value e.raw)) (consumed_ok (entry_with S) e)

    pub fields_bad : {f : Refused} → entry_with S at s ≡ fault f → fields_with S at s ≡ fault f
    unfolding after
    fields_bad e = fields_unfold at s ∙ ap (λ q. after q (λ e. fields_then (fields_with S) e.value e.raw)) (consumed_fault (entry_with S) e)

-- ---- counting

-- the answer, with k definitions in front
unfoldable pub count_from : ℕ → Result FieldList → Outcome Counted Refusal
count_from k (ok l n r) = counted (k + length l.fields) n
count_from k (fault f) = Err (refusal_is f)

pub count_zero : (q : Result FieldList) → count_from 0 q ≡ count_of q
unfolding count_from count_of
count_zero (ok l n r) = ap (λ (k : ℕ). counted k n) (zero-add (length l.fields))
count_zero (fault f) = refl

pub count_cons : (k : ℕ) (d : Consumed ValuePrototype) (R : Reader FieldList) (at : ℕ) (s : List ℕ) → count_from k ((cons_field d <$> R) at s) ≡ count_from (k + 1) (R at s)
unfolding ◌<$>◌ ◌>>=◌ count_from after success cons_field
count_cons k d R at s = go (R at s)
  where
    go : (q : Result FieldList) → count_from k (after q (λ l. success (cons_field d l))) ≡ count_from (k + 1) q
    go (ok l n r) = ap (λ (m : ℕ). counted m n) (omega arith)
    go (fault f) = refl

-- ---- one turn of a loop that counts

module _ (S : Reader (List ℕ)) (x : Exact (List ℕ) S) (s : List ℕ) (at : ℕ) where
  pub count_later : {t a b n : ℕ} → Ok (Field t a b n) ≡ entry_of (at + 8) (entry_with S at (drop at s)) → (at < n) × (n ≤ length s)
  count_later e = moved_on (entry_exact x) (entry_none S 0) s at (field_is_law (at + 8) (entry_with S at (drop at s)) e).read

  pub count_more : (k : ℕ) {t a b n : ℕ} → Ok (Field t a b n) ≡ entry_of (at + 8) (entry_with S at (drop at s))
      → count_from (k + 1) (fields_with S n (drop n s)) ≡ count_from k (fields_with S at (drop at s))
  count_more k {n = n} e =
      let f = field_is_law (at + 8) (entry_with S at (drop at s)) e in
      let m = moved (entry_exact x) s at f.read in
      let d = with f.definition (take (n - at) (drop at s)) in
      ap (λ (l : List ℕ). count_from (k + 1) (fields_with S n l)) (sym m.rest)
      ∙ sym (ap (count_from k) (fields_more S x at (drop at s) f.read) ∙ count_cons k d (fields_with S) n f.after)

  pub count_last : (k : ℕ) {n : ℕ} → Ok (Last n) ≡ entry_of (at + 8) (entry_with S at (drop at s)) → counted k n ≡ count_from k (fields_with S at (drop at s))
  unfolding count_from
  count_last k {n} e =
      let f = last_is_law (at + 8) (entry_with S at (drop at s)) e in
      let z : k ≡ k + 0 = omega arith in
      ap (λ (m : ℕ). counted m n) z ∙ sym (ap (count_from k) (fields_last S x at (drop at s) f.1))

  pub count_bad : (k : ℕ) {f : Refusal} → Err f ≡ entry_of (at + 8) (entry_with S at (drop at s)) → Err f ≡ count_from k (fields_with S at (drop at s))
  unfolding count_from
  count_bad k e = sym (ap (count_from k) (fields_bad S x at (drop at s) (bad_is (at + 8) (entry_with S at (drop at s)) e)))
