-- The value at a position: what a turn of the loop over definitions and values keeps.
use mathlib.Core.Path.{◌≡◌, refl, sym, ap, ◌∙◌, subst}
use Prim.Native.Nat.{ℕ, zero, suc, ◌+◌, ◌-◌, ◌<◌}
use native.Mathlib.Omega.{arith}
use mathlib.Core.Option.{Option, none, some, map}
use mathlib.Core.List.{List, [], ◌∷◌}
use lib.ListN.{length, take, drop, get_elem?}
use lib.Seq.{take_at}
use Rattle.bsii_format.specs.Reader.{ok, with}
use Rattle.bsii_format.specs.Prototypes.{Fields, cons_field, fields_parser}
use Rattle.bsii_format.specs.Blocks.{DataValue, data_values_parser}
use Rattle.bsii_format.specs.Calls.{Placed, placed, field_answer}
use Rattle.bsii_format.proofs.Records.{value_good}
use Rattle.bsii_string.specs.Answers.{end_of, unchecked_str}
use Rattle.bsii_prototype.specs.Entries.{entry_with}
use Rattle.bsii_prototype.specs.Answers.{entry_of}
use Rattle.bsii_string.specs.declared.answers.Refusal.{Refusal}
use Rattle.bsii_string.proofs.Ends.{next≢fault, next_same}
use Rattle.bsii_prototype.specs.declared.answers.Entry.TheVariants.{Field}
use Rattle.bsii_prototype.proofs.Turns.{FieldTurn, turn_field, turn_none}
use Rattle.bsii_skip.specs.Unchecked.{unchecked_value}
use Rattle.bsii_skip.proofs.Blocks.{Turn, turn, done}
use Rattle.bsii_field.proofs.Bounds.{value_moves}
use Rattle.bsii_field.specs.declared.Value.{Value}
use Rattle.bsii_field.specs.Answers.{found, found_is, ValueAt}
use Rattle.std.specs.Prelude.{Ok, Err, Some, None, Option as Answer}

-- ---- a value that was accepted, and those behind it

pub record ValueStep (version : ℕ) (s : List ℕ) (at type next end : ℕ) (vs : List DataValue) (n : ℕ) (t : List ℕ) (m : ℕ) (u : List ℕ) : Type 0 where
  pub value : DataValue
  pub typed : type ≡ value.type_id
  pub size : end - at ≡ length value.raw
  pub later : end ≡ at + length value.raw
  pub bytes : take (end - at) (drop at s) ≡ value.raw
  pub fields : Fields
  pub values : List DataValue
  pub read : fields_parser next (drop next s) ≡ ok fields n t
  pub carried : data_values_parser version fields.fields end (drop end s) ≡ ok values m u
  pub list : vs ≡ value ∷ values

module _ (version : ℕ) (s : List ℕ) (field at : ℕ) {l : Fields} {n : ℕ} {t : List ℕ} (read : fields_parser field (drop field s) ≡ ok l n t)
    {vs : List DataValue} {m : ℕ} {u : List ℕ} (carried : data_values_parser version l.fields at (drop at s) ≡ ok vs m u)
    {type a b next : ℕ} (e : Ok (Field type a b next) ≡ entry_of (field + 8) (entry_with unchecked_str field (drop field s))) where
  step_of : (y : FieldTurn s field type a b next l n t)
      (w : Turn version (with y.field (take (next - field) (drop field s))) y.rest.fields s at vs m u)
      → ValueStep version s at type next w.end vs n t m u
  step_of y w =
      let g = value_good (with y.field (take (next - field) (drop field s))) at (drop at s) w.value w.end (drop w.end s) w.first in
      let size : w.end - at ≡ length w.value.raw = omega (arith, g.2) in
      record {
        value = w.value;
        typed = y.typed ∙ sym g.0.typed;
        size = size;
        later = g.2;
        bytes = ap (take (w.end - at)) g.1 ∙ take_at w.value.raw (drop w.end s) (w.end - at) (sym size);
        fields = y.rest;
        values = w.values;
        read = y.more;
        carried = w.others;
        list = w.both;
      }

  step_end : (end : ℕ) × (end_of (unchecked_value version type at (drop at s)) ≡ Ok end) × ValueStep version s at type next end vs n t m u
  unfolding cons_field
  step_end =
      let y = turn_field s field read e in
      let w = turn (with y.field (take (next - field) (drop field s))) y.rest.fields s at
      (ap (λ (z : Fields). data_values_parser version z.fields at (drop at s)) (sym y.list) ∙ carried) in
      (w.end, ap (λ z. end_of (unchecked_value version z at (drop at s))) y.typed ∙ w.past, step_of y w)

  pub step : {end : ℕ} → Ok end ≡ end_of (unchecked_value version type at (drop at s)) → ValueStep version s at type next end vs n t m u
  step h = let q = step_end in subst (λ (k : ℕ). ValueStep version s at type next k vs n t m u) (sym (next_same (h ∙ q.1))) q.2

  -- what was accepted is not refused
  pub step_fault : {P : Type 0} {f : Refusal} → Err f ≡ end_of (unchecked_value version type at (drop at s)) → P
  step_fault h = next≢fault (sym (h ∙ step_end.1))

-- ---- the list of values with their places

abbrev pub places : ℕ → List DataValue → List (Placed DataValue)
places = placed (λ (v : DataValue). length v.raw)

first_place : (at : ℕ) (v : DataValue) (vs : List DataValue) {left : ℕ} → left ≡ 0 → get_elem? (places at (v ∷ vs)) left ≡ some (record { offset = at; it = v })
unfolding placed
first_place at v vs e = rw e

later_place : (at : ℕ) (v : DataValue) (vs : List DataValue) (left : ℕ) {end : ℕ} → 0 < left → end ≡ at + length v.raw
    → get_elem? (places end vs) (left - 1) ≡ get_elem? (places at (v ∷ vs)) left
unfolding placed
later_place at v vs zero h e = absurd (omega arith)
later_place at v vs (suc k) h e = let one : suc k - 1 ≡ k = omega arith in rw (one, e)

no_place : (at left : ℕ) → get_elem? (places at []) left ≡ none
unfolding placed
no_place at left = refl

part_is : (s : List ℕ) (at type end : ℕ) (v : DataValue) → type ≡ v.type_id → end - at ≡ length v.raw → take (end - at) (drop at s) ≡ v.raw
    → found_is s (found type at end) ≡ some (field_answer (record { offset = at; it = v }))
unfolding field_answer
part_is s at type end v t l b = rw (t, b, l)

-- ---- the loop: `passed` values of those from `start` on are passed, and the others stand from `at` on

pub record Rest (version : ℕ) (s : List ℕ) (field at left : ℕ) (there : Option (Placed DataValue)) (n : ℕ) (t : List ℕ) (m : ℕ) (u : List ℕ) : Type 0 where
  pub fields : Fields
  pub values : List DataValue
  pub read : fields_parser field (drop field s) ≡ ok fields n t
  pub carried : data_values_parser version fields.fields at (drop at s) ≡ ok values m u
  pub same : get_elem? (places at values) left ≡ there

pub record Going (version : ℕ) (s : List ℕ) (fields start index field at passed : ℕ) : Type 0 where
  pub rest : (l : Fields) (n : ℕ) (t : List ℕ) → fields_parser fields (drop fields s) ≡ ok l n t
      → (vs : List DataValue) (m : ℕ) (u : List ℕ) → data_values_parser version l.fields start (drop start s) ≡ ok vs m u
      → Rest version s field at (index - passed) (get_elem? (places start vs) index) n t m u

pub go_start : {version : ℕ} {s : List ℕ} {fields start index : ℕ} → Going version s fields start index fields start 0
go_start {start = start} {index = index} = record {
  rest = λ l n t e vs m u f.
      let all : index - 0 ≡ index = omega arith in
      record { fields = l; values = vs; read = e; carried = f; same = ap (get_elem? (places start vs)) all };
}

value_is : {v w : Value} → ◌≡◌ {A = Answer Value} (Some v) (Some w) → v ≡ w
value_is e = cc

none≢value : {P : Type 0} {v : Value} → ◌≡◌ {A = Answer Value} None (Some v) → P
none≢value e = let f : ⊥ = cc in absurd f

module _ {version : ℕ} {s : List ℕ} {fields start index field at passed : ℕ} (k : Going version s fields start index field at passed) where
  pub go_none : ((type a b next : ℕ) → Ok (Field type a b next) ≡ entry_of (field + 8) (entry_with unchecked_str field (drop field s)) → ⊥)
      → ValueAt version s fields start index None
  go_none e = record {
    answer = λ l n t h vs m u f.
        let x = k.rest l n t h vs m u f in
        let none = done version (ap (λ fs. data_values_parser version fs at (drop at s)) (sym (turn_none s field x.read e)) ∙ x.carried) in
        ap (map field_answer) (sym (no_place at (index - passed)) ∙ ap (λ ws. get_elem? (places at ws) (index - passed)) (sym none.0) ∙ x.same);
    inside = λ t a n f. none≢value f;
  }

  module _ {type a b next : ℕ} (e : Ok (Field type a b next) ≡ entry_of (field + 8) (entry_with unchecked_str field (drop field s))) where
    pub go_fault : {f : Refusal} → Err f ≡ end_of (unchecked_value version type at (drop at s)) → ValueAt version s fields start index None
    go_fault h = record {
      answer = λ l n t f vs m u g. let x = k.rest l n t f vs m u g in step_fault version s field at x.read x.carried e h;
      inside = λ t a n f. none≢value f;
    }

    module _ {end : ℕ} (h : Ok end ≡ end_of (unchecked_value version type at (drop at s))) where
      pub go_here : passed ≡ index → ValueAt version s fields start index (found type at end)
      go_here z = record {
        answer = λ l n t f vs m u g.
            let x = k.rest l n t f vs m u g in
            let y = step version s field at x.read x.carried e h in
            let none : index - passed ≡ 0 = omega arith in
            part_is s at type end y.value y.typed y.size y.bytes
            ∙ ap (map field_answer) (sym (first_place at y.value y.values none) ∙ ap (λ ws. get_elem? (places at ws) (index - passed)) (sym y.list) ∙ x.same);
        inside = λ t a n f.
            let q = value_moves version type s at h in
            let p = value_is f in
            (omega (arith, q, ap (λ (v : Value). v.at) p, ap (λ (v : Value). v.next) p), omega (arith, q, ap (λ (v : Value). v.next) p));
      }

      pub go_on : passed < index → Going version s fields start index next end (passed + 1)
      go_on z = record {
        rest = λ l n t f vs m u g.
            let x = k.rest l n t f vs m u g in
            let y = step version s field at x.read x.carried e h in
            let fewer : index - (passed + 1) ≡ index - passed - 1 = omega arith in
            record {
              fields = y.fields;
              values = y.values;
              read = y.read;
              carried = y.carried;
              same =
                  ap (get_elem? (places end y.values)) fewer ∙ later_place at y.value y.values (index - passed) (omega arith) y.later
                  ∙ ap (λ ws. get_elem? (places at ws) (index - passed)) (sym y.list) ∙ x.same;
            };
      }
