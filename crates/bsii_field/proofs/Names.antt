-- The first definition of a name: what a turn of the loop over definitions keeps.
use mathlib.Core.Path.{◌≡◌, refl, sym, ap, ◌∙◌, subst}
use Prim.Native.Nat.{ℕ, suc, ◌+◌, ◌-◌, ◌≤◌, ◌<◌}
use native.Mathlib.Nat.{zero-add}
use native.Mathlib.Omega.{arith}
use mathlib.Core.Bool.{true, false}
use mathlib.Core.Option.{Option, none, some, map}
use mathlib.Core.List.{List, ◌∷◌}
use native.Mathlib.Numerals.{add-one}
use lib.ListN.{length, take, drop, get_or, length-drop}
use lib.Seq.{take_all, take-suc, get_or-take, get_or-drop, length-take-le}
use lib.Dec.{T}
use Rattle.bsii_format.specs.Reader.{ok, same, Consumed, with}
use Rattle.bsii_format.specs.Prototypes.{ValuePrototype, Fields, cons_field, fields_parser}
use Rattle.bsii_format.specs.Calls.{field_index}
use Rattle.bsii_format.proofs.Readers.{is_true, is_false, same→eq, same_refl}
use Rattle.bsii_string.specs.Answers.{unchecked_str}
use Rattle.bsii_prototype.specs.Entries.{entry_with}
use Rattle.bsii_prototype.specs.Answers.{entry_of}
use Rattle.bsii_prototype.specs.declared.answers.Entry.TheVariants.{Field}
use Rattle.bsii_prototype.proofs.Turns.{turn_field, turn_none}
use Rattle.bsii_field.specs.Answers.{IndexOf}
use Rattle.std.specs.Prelude.{Ok, Some, None}

-- ---- a name from `start` to `end`, byte by byte

module _ (s name : List ℕ) (start end : ℕ) where
  pub size_other : (start ≤ end) × (end ≤ length s) → (end - start ≡ length name → ⊥) → name ≡ take (end - start) (drop start s) → ⊥
  size_other h other e =
      let room : end - start ≤ length (drop start s) = rw length-drop (omega arith) in
      other (sym (ap length e ∙ length-take-le (end - start) (drop start s) room))

  module _ (i : ℕ) where
    pub byte_other : i < end - start → (get_or s (start + i) 0 ≡ get_or name i 0 → ⊥) → name ≡ take (end - start) (drop start s) → ⊥
    byte_other h other e = other (sym (ap (λ (l : List ℕ). get_or l i 0) e ∙ get_or-take (end - start) (drop start s) i 0 h ∙ get_or-drop start s i 0))

    -- the first i bytes are the same
    module _ (front : take i name ≡ take i (drop start s)) where
      pub byte_more : i < length name → start + i < length s → get_or s (start + i) 0 ≡ get_or name i 0 → take (i + 1) name ≡ take (i + 1) (drop start s)
      byte_more h k e =
          let inside : i < length (drop start s) = rw length-drop (omega arith) in
          rw (add-one, take-suc name i 0 h, take-suc (drop start s) i 0 inside, front, get_or-drop start s i 0, e)

      pub bytes_all : i ≡ length name → end - start ≡ length name → name ≡ take (end - start) (drop start s)
      bytes_all h e = sym (take_all i name (omega arith)) ∙ front ∙ ap (λ (k : ℕ). take k (drop start s)) (h ∙ sym e)

-- ---- whole names

is_same : (x y : List ℕ) → x ≡ y → same x y ≡ true
is_same x y e = is_true (same x y) (subst (λ (z : List ℕ). T (same x z)) e (same_refl x))

is_other : (x y : List ℕ) → (x ≡ y → ⊥) → same x y ≡ false
is_other x y h = is_false (same x y) (λ t. h (same→eq x y t))

-- ---- a list of definitions with one in front

front : (name : List ℕ) (f : Consumed ValuePrototype) (fs : List (Consumed ValuePrototype)) → name ≡ f.value.name → field_index name (f ∷ fs) ≡ some 0
unfolding field_index
front name f fs e = rw (is_same name f.value.name e)

behind : (name : List ℕ) (f : Consumed ValuePrototype) (fs : List (Consumed ValuePrototype)) → (name ≡ f.value.name → ⊥)
    → field_index name (f ∷ fs) ≡ map suc (field_index name fs)
unfolding field_index
behind name f fs h = rw (is_other name f.value.name h)

-- the position, with k definitions in front
unfoldable pub from : ℕ → Option ℕ → Option ℕ
from k = map (λ i. k + i)

from_zero : (o : Option ℕ) → from 0 o ≡ o
unfolding from
from_zero none = refl
from_zero (some i) = ap some (zero-add i)

from_suc : (k : ℕ) (o : Option ℕ) → from (k + 1) o ≡ from k (map suc o)
unfolding from
from_suc k none = refl
from_suc k (some i) = ap some (omega arith)

from_here : (k : ℕ) → from k (some 0) ≡ some k
unfolding from
from_here k = ap some (omega arith)

from_none : (k : ℕ) → from k none ≡ none
unfolding from
from_none k = refl

-- ---- the loop: of the definitions from `fields` on, `index` are passed, none of them of that name

pub record Rest (s : List ℕ) (name : List ℕ) (field index : ℕ) (l : Fields) (n : ℕ) (t : List ℕ) : Type 0 where
  pub fields : Fields
  pub read : fields_parser field (drop field s) ≡ ok fields n t
  pub first : from index (field_index name fields.fields) ≡ field_index name l.fields

pub record Seeking (s : List ℕ) (fields : ℕ) (name : List ℕ) (field index : ℕ) : Type 0 where
  pub rest : (l : Fields) (n : ℕ) (t : List ℕ) → fields_parser fields (drop fields s) ≡ ok l n t → Rest s name field index l n t

pub seek_start : {s : List ℕ} {fields : ℕ} {name : List ℕ} → Seeking s fields name fields 0
seek_start {name = name} = record { rest = λ l n t e. record { fields = l; read = e; first = from_zero (field_index name l.fields) } }

module _ {s : List ℕ} {fields : ℕ} {name : List ℕ} {field index : ℕ} (k : Seeking s fields name field index) where
  pub seek_none : ((type a b next : ℕ) → Ok (Field type a b next) ≡ entry_of (field + 8) (entry_with unchecked_str field (drop field s)) → ⊥) → IndexOf s fields name None
  unfolding field_index
  seek_none e = record {
    first = λ l n t h.
        let x = k.rest l n t h in
        sym (from_none index) ∙ ap (λ fs. from index (field_index name fs)) (sym (turn_none s field x.read e)) ∙ x.first;
  }

  module _ {type a b next : ℕ} (e : Ok (Field type a b next) ≡ entry_of (field + 8) (entry_with unchecked_str field (drop field s))) where
    pub seek_here : name ≡ take (b - a) (drop a s) → IndexOf s fields name (Some index)
    unfolding cons_field
    seek_here same = record {
      first = λ l n t h.
          let x = k.rest l n t h in
          let y = turn_field s field x.read e in
          sym (from_here index)
          ∙ ap (from index) (sym (front name (with y.field (take (next - field) (drop field s))) y.rest.fields (same ∙ y.name)))
          ∙ ap (λ (z : Fields). from index (field_index name z.fields)) (sym y.list) ∙ x.first;
    }

    pub seek_on : (name ≡ take (b - a) (drop a s) → ⊥) → Seeking s fields name next (index + 1)
    unfolding cons_field
    seek_on other = record {
      rest = λ l n t h.
          let x = k.rest l n t h in
          let y = turn_field s field x.read e in
          record {
            fields = y.rest;
            read = y.more;
            first =
                from_suc index (field_index name y.rest.fields)
                ∙ ap (from index) (sym (behind name (with y.field (take (next - field) (drop field s))) y.rest.fields (λ z. other (z ∙ sym y.name))))
                ∙ ap (λ (z : Fields). from index (field_index name z.fields)) (sym y.list) ∙ x.first;
          };
    }
