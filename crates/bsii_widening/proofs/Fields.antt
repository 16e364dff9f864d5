-- Field definitions and values in step: what an insertion at one position of both keeps. By induction on the position, which goes down both lists at once.
use mathlib.Core.Path.{◌≡◌, refl, ap, subst}
use Prim.Native.Nat.{ℕ, zero, suc}
use native.Mathlib.Omega.{arith}
use mathlib.Core.Bool.{Bool, true, false, ◌||◌, not}
use mathlib.Core.Option.{Option, some}
use mathlib.Core.List.{List, [], ◌∷◌}
use lib.ListN.{length}
use lib.Dec.{T, T_not, not_T}
use Rattle.bsii_format.specs.Reader.{Consumed, same}
use Rattle.bsii_format.specs.Values.{Value}
use Rattle.bsii_format.specs.Prototypes.{ValuePrototype}
use Rattle.bsii_format.specs.Blocks.{DataValue}
use Rattle.bsii_format.proofs.Readers.{same→eq}
use Rattle.bsii_format.proofs.Records.{GoodField, GoodFields, nil, cons, GoodValue, GoodValues}
use Rattle.bsii_widening.specs.Marks.{Mark, old, inserted, all, olds, as_old}
use Rattle.bsii_widening.specs.Insertions.{insert_at, insert_if, EnumsListed, has_name}
use Rattle.bsii_widening.proofs.Marks.{olds_insert}
use Rattle.bsii_widening.proofs.Says.{HasText}

fields_insert_at : (p : ℕ) {f : Consumed ValuePrototype} {fs : List (Consumed ValuePrototype)} → GoodField f → GoodFields fs → GoodFields (insert_at p f fs)
unfolding insert_at
fields_insert_at zero g h = cons g h
fields_insert_at (suc p) g nil = cons g nil
fields_insert_at (suc p) g (cons k h) = cons k (fields_insert_at p g h)

pub fields_insert : (c : Bool) (p : ℕ) {f : Consumed ValuePrototype} {fs : List (Consumed ValuePrototype)} → GoodField f → GoodFields fs → GoodFields (insert_if c p f fs)
unfolding insert_if
fields_insert true p g h = fields_insert_at p g h
fields_insert false p g h = h

pub values_insert : {version : ℕ} (p : ℕ) {f : Consumed ValuePrototype} {v : DataValue} {fs : List (Consumed ValuePrototype)} {l : List DataValue} → GoodValue version f v → GoodValues version fs l
    → GoodValues version (insert_at p f fs) (insert_at p v l)
unfolding insert_at
values_insert zero g h = cons g h
values_insert (suc p) g nil = cons g nil
values_insert (suc p) g (cons k h) = cons k (values_insert p g h)

-- ---- every value has a text

pub data Says (text : ValuePrototype → Value → Option (List ℕ)) : List (Consumed ValuePrototype) → List DataValue → Type 0 where
  none_left : Says text [] []
  saying : {f : Consumed ValuePrototype} {fs : List (Consumed ValuePrototype)} {v : DataValue} {l : List DataValue} (t : List ℕ)
      → text f.value v.value ≡ some t → Says text fs l → Says text (f ∷ fs) (v ∷ l)

module _ {text : ValuePrototype → Value → Option (List ℕ)} where
  pub says_length : {fs : List (Consumed ValuePrototype)} {l : List DataValue} → Says text fs l → length fs ≡ length l
  says_length none_left = refl
  says_length (saying t e h) = ap suc (says_length h)

  pub says_insert : (p : ℕ) (f : Consumed ValuePrototype) (v : DataValue) {fs : List (Consumed ValuePrototype)} {l : List DataValue} (t : List ℕ)
      → text f.value v.value ≡ some t → Says text fs l → Says text (insert_at p f fs) (insert_at p v l)
  unfolding insert_at
  says_insert zero f v t g h = saying t g h
  says_insert (suc p) f v t g none_left = saying t g none_left
  says_insert (suc p) f v t g (saying u k h) = saying u k (says_insert p f v t g h)

  pub values_say : HasText text → {version : ℕ} {gs : List (Consumed ValuePrototype)} {l : List DataValue} (fs : List (Consumed ValuePrototype)) → GoodValues version gs l → length fs ≡ length l → EnumsListed fs l
      → Says text fs l
  values_say has [] nil n e = none_left
  values_say has (f ∷ fs) nil n e = absurd (omega arith)
  values_say has [] (cons g h) n e = absurd (omega arith)
  values_say has (f ∷ fs) (cons {v = v} g h) n e = let t = has f.value v.value e.0 in saying t.0 t.1 (values_say has fs h (omega arith) e.1)

-- ---- marks in step

pub data Aligned : List (Mark (Consumed ValuePrototype)) → List (Mark DataValue) → Type 0 where
  level : Aligned [] []
  both_old : {f : Consumed ValuePrototype} {fs : List (Mark (Consumed ValuePrototype))} {v : DataValue} {l : List (Mark DataValue)} → Aligned fs l → Aligned (old f ∷ fs) (old v ∷ l)
  both_new : {f : Consumed ValuePrototype} {fs : List (Mark (Consumed ValuePrototype))} {v : DataValue} {l : List (Mark DataValue)} → Aligned fs l → Aligned (inserted f ∷ fs) (inserted v ∷ l)

pub aligned_insert : (p : ℕ) (f : Consumed ValuePrototype) (v : DataValue) {fs : List (Mark (Consumed ValuePrototype))} {l : List (Mark DataValue)} → Aligned fs l
    → Aligned (insert_at p (inserted f) fs) (insert_at p (inserted v) l)
unfolding insert_at
aligned_insert zero f v h = both_new h
aligned_insert (suc p) f v level = both_new level
aligned_insert (suc p) f v (both_old h) = both_old (aligned_insert p f v h)
aligned_insert (suc p) f v (both_new h) = both_new (aligned_insert p f v h)

pub aligned_start : {text : ValuePrototype → Value → Option (List ℕ)} {fs : List (Consumed ValuePrototype)} {l : List DataValue} → Says text fs l → Aligned (as_old fs) (as_old l)
unfolding as_old
aligned_start none_left = level
aligned_start (saying t e h) = both_old (aligned_start h)

pub says_old : {text : ValuePrototype → Value → Option (List ℕ)} {fs : List (Mark (Consumed ValuePrototype))} {l : List (Mark DataValue)} → Aligned fs l → Says text (all fs) (all l)
    → Says text (olds fs) (olds l)
unfolding all olds
says_old level h = h
says_old (both_old a) (saying t e h) = saying t e (says_old a h)
says_old (both_new a) (saying t e h) = says_old a h

-- ---- names

-- no inserted definition has the name n
abbrev pub Clear : List ℕ → List (Mark (Consumed ValuePrototype)) → Type 0
Clear n [] = Unit {0}
Clear n (old f ∷ fs) = Clear n fs
Clear n (inserted f ∷ fs) = T (not (same n f.value.name)) × Clear n fs

-- no inserted definition has the name of an old one
pub record Distinct (fs : List (Mark (Consumed ValuePrototype))) : Type 0 where
  pub clear : (n : List ℕ) → T (has_name n (olds fs)) → Clear n fs

pub or_right : (a b : Bool) → T b → T (a || b)
or_right true b h = tt
or_right false b h = h

pub or_left : (a b : Bool) → T a → T (a || b)
or_left true b h = tt
or_left false b h = absurd h

or_cases : {P : Type 0} (a b : Bool) → T (a || b) → (T a → P) → (T b → P) → P
or_cases true b h f g = f tt
or_cases false b h f g = g h

has_all : (n : List ℕ) (fs : List (Mark (Consumed ValuePrototype))) → T (has_name n (olds fs)) → T (has_name n (all fs))
unfolding has_name olds all
has_all n [] h = h
has_all n (old f ∷ fs) h =
    or_cases (same n f.value.name) (has_name n (olds fs)) h (or_left (same n f.value.name) (has_name n (all fs)))
    (λ k. or_right (same n f.value.name) (has_name n (all fs)) (has_all n fs k))
has_all n (inserted f ∷ fs) h = or_right (same n f.value.name) (has_name n (all fs)) (has_all n fs h)

clear_insert : (p : ℕ) (n : List ℕ) (f : Consumed ValuePrototype) (fs : List (Mark (Consumed ValuePrototype))) → T (not (same n f.value.name)) → Clear n fs → Clear n (insert_at p (inserted f) fs)
unfolding insert_at
clear_insert zero n f fs g h = (g, h)
clear_insert (suc p) n f [] g h = (g, h)
clear_insert (suc p) n f (old x ∷ fs) g h = clear_insert p n f fs g h
clear_insert (suc p) n f (inserted x ∷ fs) g h = (h.0, clear_insert p n f fs g h.1)

pub distinct_insert : (p : ℕ) (f : Consumed ValuePrototype) (fs : List (Mark (Consumed ValuePrototype))) → T (not (has_name f.value.name (all fs))) → Distinct fs
    → Distinct (insert_at p (inserted f) fs)
distinct_insert p f fs g d = record {
  clear = λ n h.
      let k : T (has_name n (olds fs)) = subst (λ z. T (has_name n z)) (olds_insert p f fs) h in
      clear_insert p n f fs
      (not_T (same n f.value.name) (λ e. T_not (has_name f.value.name (all fs)) g (subst (λ z. T (has_name z (all fs))) (same→eq n f.value.name e) (has_all n fs k))))
      (d.clear n k);
}

clear_start : (n : List ℕ) (fs : List (Consumed ValuePrototype)) → Clear n (as_old fs)
unfolding as_old
clear_start n [] = tt
clear_start n (f ∷ fs) = clear_start n fs

pub distinct_start : (fs : List (Consumed ValuePrototype)) → Distinct (as_old fs)
distinct_start fs = record { clear = λ n k. clear_start n fs }
