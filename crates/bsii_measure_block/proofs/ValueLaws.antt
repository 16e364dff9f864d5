-- A block's values one by one: what a turn of the loop over them keeps.
use mathlib.Core.Path.{◌≡◌, refl, sym, ap, ◌∙◌}
use Prim.Native.Nat.{ℕ, ◌+◌, ◌-◌, ◌≤◌}
use native.Mathlib.Omega.{arith}
use mathlib.Core.Option.{Option}
use mathlib.Core.List.{List, [], ◌∷◌}
use lib.ListN.{length, take, drop, length-drop}
use lib.Seq.{length-take-le}
use Rattle.bsii_format.specs.Replies as replies
use Rattle.bsii_format.specs.Replies.{Reply, enum_value}
use Rattle.bsii_format.specs.Reader.{Result, ok, fault, after, ◌>>=◌, success, ◌<$>◌, Consumed, with, consumed}
use Rattle.bsii_format.specs.Values.{Value, value_parser}
use Rattle.bsii_format.specs.Prototypes.{ValuePrototype, Fields, fields_parser}
use Rattle.bsii_format.specs.Blocks.{DataValue, data_value, data_value_parser, data_values_parser}
use Rattle.bsii_format.specs.Text.{value_text}
use Rattle.bsii_format.specs.BlockText.{or_refuse, fields_text}
use Rattle.bsii_format.proofs.Parsers.{value_exact}
use Rattle.bsii_format.proofs.Positions.{moved, consumed_ok, map_value}
use Rattle.bsii_string.specs.Answers.{unchecked_str}
use Rattle.bsii_string.specs.declared.answers.Refusal.{Refusal}
use Rattle.bsii_prototype.specs.Entries.{entry_with}
use Rattle.bsii_prototype.specs.Answers.{entry_of}
use Rattle.bsii_prototype.specs.declared.answers.Entry.TheVariants.{Field}
use Rattle.bsii_prototype.proofs.Turns.{FieldTurn, turn_field, turn_none}
use Rattle.bsii_definition.specs.Pairs.{definition}
use Rattle.bsii_measure_block.specs.Sums.{measure_of, plus, sum_is, Outcome, sums, stops, summed_is, SumFits, Room}
use Rattle.bsii_measure_block.specs.Fields.{field_sum, values_sum, FieldSummed, ValuesSummed}
use Rattle.bsii_measure_block.specs.declared.sums.Sum.{Sum}
use Rattle.bsii_measure_block.specs.declared.sums.Summed.{Summed}
use Rattle.std.specs.Prelude.{Ok, Err, Result as Answer}
use Rattle.bsii_measure_block.proofs.SumLaws.{measure_joined, plus_assoc, plus_none}

pub sums≢stops : {P : Type 0} {n : ℕ} {a : Reply ℕ} {f : replies.Fault} → ◌≡◌ {A = Outcome} (sums n a) (stops f) → P
sums≢stops e = let z : ◌≡◌ {A = ℕ} 0 1 = cc in let f : ⊥ = omega arith in absurd f

-- ---- one value and those behind it

module _ (text : ValuePrototype → Value → Option (List ℕ)) (version : ℕ) (before : Reply ℕ) (s : List ℕ) (at : ℕ) (f : Consumed ValuePrototype) (fs : List (Consumed ValuePrototype)) where
  -- the sum so far with the value's text
  more : Value → Reply ℕ
  more v = plus before (measure_of (or_refuse enum_value at (text f.value v)))

  read_sum : {v : Value} {e : ℕ} → value_parser version f.value.type_id at (drop at s) ≡ ok v e (drop e s)
      → values_sum text before at (f ∷ fs) (data_values_parser version (f ∷ fs) at (drop at s)) ≡ values_sum text (more v) e fs (data_values_parser version fs e (drop e s))
  unfolding data_values_parser data_value_parser ◌>>=◌ after
  read_sum {v} {e} h =
      let m = moved (value_exact version f.value.type_id) s at h in
      let raw = take (e - at) (drop at s) in
      let long : at + length raw ≡ e = rw (length-take-le (e - at) (drop at s) (rw length-drop m.taken)) (omega (arith, m.later)) in
      let c : data_value_parser version f.value.type_id at (drop at s) ≡ ok (data_value f.value.type_id (with v raw)) e (drop e s) =
      map_value (data_value f.value.type_id) (consumed (value_parser version f.value.type_id)) (consumed_ok (value_parser version f.value.type_id) h) in
      rw c (behind raw long (data_values_parser version fs e (drop e s)))
    where
      behind : (raw : List ℕ) → at + length raw ≡ e → (q : Result (List DataValue))
          → values_sum text before at (f ∷ fs) (after q (λ l. success (data_value f.value.type_id (with v raw) ∷ l))) ≡ values_sum text (more v) e fs q
      behind raw long (ok l n r) =
          unfold values_sum after success fields_text data_value more in
          let here = or_refuse enum_value at (text f.value v) in
          ap (sums n)
          (ap (plus before) (measure_joined here (fields_text text (at + length raw) fs l) ∙ ap (λ k. plus (measure_of here) (measure_of (fields_text text k fs l))) long)
          ∙ sym (plus_assoc before (measure_of here) (measure_of (fields_text text e fs l))))
      behind raw long (fault x) = unfold values_sum after in refl

  pub value_sum : {e : ℕ} {so : Reply ℕ} → sums e so ≡ field_sum text before f.value at (value_parser version f.value.type_id at (drop at s))
      → values_sum text before at (f ∷ fs) (data_values_parser version (f ∷ fs) at (drop at s)) ≡ values_sum text so e fs (data_values_parser version fs e (drop e s))
  value_sum {e} {so} h = go (value_parser version f.value.type_id at (drop at s)) refl h
    where
      go : (q : Result Value) → value_parser version f.value.type_id at (drop at s) ≡ q → sums e so ≡ field_sum text before f.value at q
          → values_sum text before at (f ∷ fs) (data_values_parser version (f ∷ fs) at (drop at s)) ≡ values_sum text so e fs (data_values_parser version fs e (drop e s))
      go (ok v i r) k z =
          unfold field_sum more in
          let j : i ≡ e = cc in
          let w : more v ≡ so = cc in
          let reads : value_parser version f.value.type_id at (drop at s) ≡ ok v e (drop e s) =
          k ∙ ap (ok v i) (moved (value_exact version f.value.type_id) s at k).rest ∙ ap (λ n. ok v n (drop n s)) j in
          read_sum reads ∙ ap (λ x. values_sum text x e fs (data_values_parser version fs e (drop e s))) w
      go (fault x) k z = unfold field_sum in sums≢stops z

  pub value_stop : {x : replies.Fault} → stops x ≡ field_sum text before f.value at (value_parser version f.value.type_id at (drop at s))
      → stops x ≡ values_sum text before at (f ∷ fs) (data_values_parser version (f ∷ fs) at (drop at s))
  unfolding data_values_parser data_value_parser ◌<$>◌ ◌>>=◌ consumed after values_sum
  value_stop {x} h = rw (fault_of (value_parser version f.value.type_id at (drop at s)) h)
    where
      fault_of : (q : Result Value) → stops x ≡ field_sum text before f.value at q → q ≡ fault x
      fault_of (ok v i r) z = unfold field_sum in sums≢stops (sym z)
      fault_of (fault y) z = unfold field_sum in let e : y ≡ x = cc in ap fault e

values_none : (text : ValuePrototype → Value → Option (List ℕ)) (version : ℕ) (before : Reply ℕ) (at : ℕ) (s : List ℕ)
    → sums at before ≡ values_sum text before at [] (data_values_parser version [] at s)
unfolding data_values_parser success values_sum fields_text measure_of
values_none text version before at s = ap (sums at) (sym (plus_none before))

-- ---- the loop: the sum so far, and the values from `at` on under the definitions from `field` on, are the whole

pub record Adding (version : ℕ) (s : List ℕ) (fields start : ℕ) (before : Sum) (field at : ℕ) (sum : Sum) (count : ℕ) : Type 0 where
  pub rest : (l : Fields) (n : ℕ) (t : List ℕ) → fields_parser fields (drop fields s) ≡ ok l n t
      → (k : Fields) × (fields_parser field (drop field s) ≡ ok k n t)
      × (values_sum value_text (sum_is sum.to sum.missing) at k.fields (data_values_parser version k.fields at (drop at s))
      ≡ values_sum value_text (sum_is before.to before.missing) start l.fields (data_values_parser version l.fields start (drop start s)))
      × (count + length k.fields ≡ length l.fields)
  pub later : start + count ≤ at
  pub room : Room s at sum

pub adding_start : {version : ℕ} {s : List ℕ} {fields start : ℕ} {before : Sum} → Room s start before → Adding version s fields start before fields start before 0
adding_start h = record { rest = λ l n t e. (l, e, refl, omega arith); later = omega arith; room = h }

module _ {version : ℕ} {s : List ℕ} {fields start : ℕ} {before : Sum} {field at : ℕ} {sum : Sum} {count : ℕ} (i : Adding version s fields start before field at sum count) where
  -- the sum of the values from here on
  from_here : List (Consumed ValuePrototype) → Outcome
  from_here fs = values_sum value_text (sum_is sum.to sum.missing) at fs (data_values_parser version fs at (drop at s))

  pub adding_last : ((type a b next : ℕ) → Ok (Field type a b next) ≡ entry_of (field + 8) (entry_with unchecked_str field (drop field s)) → ⊥)
      → ValuesSummed version s fields start before (Ok (record { at = at; sum = sum; values = count }))
  unfolding from_here
  adding_last e = record {
    is = λ l n t h.
        let k = i.rest l n t h in
        values_none value_text version (sum_is sum.to sum.missing) at (drop at s) ∙ ap from_here (sym (turn_none s field k.1 e)) ∙ k.2;
    counts = λ l n t h. let k = i.rest l n t h in omega (arith, k.3, ap length (turn_none s field k.1 e));
    fine = (i.later, i.room.inside, i.room.fits);
  }

  module _ {type a b next : ℕ} (e : Ok (Field type a b next) ≡ entry_of (field + 8) (entry_with unchecked_str field (drop field s))) where
    -- what the field's sum says of the definition that stands there
    field_is_law : {r : Answer Summed Refusal} → FieldSummed version s at (definition type a b) sum r → {l : Fields} {n : ℕ} {t : List ℕ} (y : FieldTurn s field type a b next l n t)
        → summed_is r ≡ field_sum value_text (sum_is sum.to sum.missing) y.field at (value_parser version y.field.type_id at (drop at s))
    field_is_law w y =
        w.is y.field (record { typed = y.typed; name = y.name; end = next; enums = y.enums })
        ∙ ap (λ k. field_sum value_text (sum_is sum.to sum.missing) y.field at (value_parser version k at (drop at s))) y.typed

    pub adding_fault : {f : Refusal} → FieldSummed version s at (definition type a b) sum (Err f) → ValuesSummed version s fields start before (Err f)
    unfolding from_here
    adding_fault w = record {
      is = λ l n t h.
          let x = i.rest l n t h in
          let y = turn_field s field x.1 e in
          value_stop value_text version (sum_is sum.to sum.missing) s at (with y.field (take (next - field) (drop field s))) y.rest.fields (field_is_law w y)
          ∙ ap from_here (sym y.fields) ∙ x.2;
      counts = λ l n t h. tt;
      fine = tt;
    }

    pub adding_next : {m : Summed} → FieldSummed version s at (definition type a b) sum (Ok m) → Adding version s fields start before next m.at m.sum (count + 1)
    unfolding from_here
    adding_next {m} w =
        let f : SumFits s at (Ok m) = w.fine in
        record {
          rest = λ l n t h.
              let x = i.rest l n t h in
              let y = turn_field s field x.1 e in (
                y.rest,
                y.more,
                sym (value_sum value_text version (sum_is sum.to sum.missing) s at (with y.field (take (next - field) (drop field s))) y.rest.fields
                    (field_is_law w y))
                    ∙ ap from_here (sym y.fields) ∙ x.2,
                omega (arith, x.3, ap length y.fields),
              );
          later = omega (arith, i.later, f.0);
          room = record { short = i.room.short; inside = f.1; fits = f.2 };
        }
