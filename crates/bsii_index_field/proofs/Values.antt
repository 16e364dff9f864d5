-- A block's values, each checked, and the one that is kept: what a turn of the loop over definitions and values keeps.
use mathlib.Core.Path.{◌≡◌, refl, sym, ap, ◌∙◌}
use Prim.Native.Nat.{ℕ, ◌+◌, ◌-◌, ◌≤◌, ◌<◌}
use native.Mathlib.Omega.{arith}
use mathlib.Core.Bool.{Bool, true, false, cond}
use mathlib.Core.Option.{Option}
use mathlib.Core.List.{List}
use lib.ListN.{length, drop}
use lib.Dec.{eqb}
use borrow.Author.Tests.{eq-eqb, ne_eqb, eqb-true, eqb-false}
use Rattle.bsii_format.specs.Replies.{Reply, gives, refuses, absent}
use Rattle.bsii_format.specs.Reader.{ok, fault, Result}
use Rattle.bsii_format.specs.Values.{value_parser}
use Rattle.bsii_format.specs.Blocks.{DataValue, data_values_parser}
use Rattle.bsii_format.specs.BlockText.{or_refuse}
use Rattle.bsii_format.specs.Calls.{field_index, at_index, FieldAnswer, or_absent}
use Rattle.bsii_format.specs.Prototypes.{Fields, fields_parser}
use Rattle.bsii_format.proofs.Parsers.{value_exact}
use Rattle.bsii_string.specs.Answers.{refused_at, end_of, unchecked_str}
use Rattle.bsii_string.specs.declared.answers.Refusal.{Refusal}
use Rattle.bsii_string.proofs.Ends.{next_ok, fault_at_law}
use Rattle.bsii_prototype.specs.Entries.{entry_with}
use Rattle.bsii_prototype.specs.Answers.{entry_of}
use Rattle.bsii_prototype.specs.declared.answers.Entry.{Entry}
use Rattle.bsii_prototype.specs.declared.answers.Entry.TheVariants.{Field as Definition, Last}
use Rattle.bsii_prototype.specs.declared.answers.Counted.{Counted}
use Rattle.bsii_prototype.specs.Answers.{counted}
use Rattle.bsii_skip.specs.Unchecked.{unchecked_value}
use Rattle.bsii_skip.proofs.Values.{value_same}
use Rattle.bsii_block.specs.Blocks.{counted_end, ValuesEnd}
use Rattle.bsii_parse.proofs.Passing.{values_exact}
use Rattle.bsii_field.specs.Answers.{index_is, IndexOf, found, found_is, ValueAt}
use Rattle.bsii_field.specs.declared.Value.{Value}
use Rattle.bsii_field.proofs.Values.{Going, go_start, go_none, go_here, go_on}
use Rattle.bsii_file_field.specs.declared.answers.Field.{Field}
use Rattle.bsii_derived.specs.IndexCalls.{answering}
use Rattle.bsii_index_field.specs.Looks.{kept_of, value_of, values_is, ValuesRead, FieldRead}
use Rattle.std.specs.Prelude.{Ok, Err, Result as Outcome, Some, None, Option as Answer}

-- ---- what is kept behind a value

module _ {i : Answer ℕ} {position passed : ℕ} (z : i ≡ Some position) where
  pub keep_this : position ≡ passed → (v : Answer Value) (w : Value) → Some w ≡ kept_of i passed v w
  keep_this e v w = sym (ap (λ i. kept_of i passed v w) z ∙ rw (eq-eqb position passed e))

  pub keep_that : (position ≡ passed → ⊥) → (v : Answer Value) (w : Value) → v ≡ kept_of i passed v w
  keep_that e v w = sym (ap (λ i. kept_of i passed v w) z ∙ rw (ne_eqb position passed e))

last≢field : {P : Type 0} {n t a b m : ℕ} {q : Outcome Entry Refusal} → Ok (Last n) ≡ q → Ok (Definition t a b m) ≡ q → P
last≢field e z = cc

-- ---- the loop: nothing is kept as long as the index is ahead, and then its value

pub data Keeping (version : ℕ) (s : List ℕ) (fields start field at passed : ℕ) : Answer ℕ → Answer Value → Type 0 where
  nowhere : Keeping version s fields start field at passed None None
  ahead : {i : ℕ} → passed ≤ i → Going version s fields start i field at passed → Keeping version s fields start field at passed (Some i) None
  behind : {i : ℕ} {v : Answer Value} → i < passed → ValueAt version s fields start i v → Keeping version s fields start field at passed (Some i) v

pub keep_start : {version : ℕ} {s : List ℕ} {fields start : ℕ} (i : Answer ℕ) → Keeping version s fields start fields start 0 i None
keep_start None = nowhere
keep_start (Some i) = ahead {i = i} (omega arith) go_start

-- the value at the index, as `ValueAt` says it of a position
pub record Kept (version : ℕ) (s : List ℕ) (fields start : ℕ) (i : Answer ℕ) (v : Answer Value) : Type 0 where
  pub answer : (l : Fields) (n : ℕ) (t : List ℕ) → fields_parser fields (drop fields s) ≡ ok l n t
      → (vs : List DataValue) (m : ℕ) (u : List ℕ) → data_values_parser version l.fields start (drop start s) ≡ ok vs m u
      → found_is s v ≡ value_of start vs (index_is i)
  pub inside : (t at next : ℕ) → v ≡ found t at next → (at < next) × (next ≤ length s)

no_value : {version : ℕ} {s : List ℕ} {fields start : ℕ} → Kept version s fields start None None
unfolding at_index
no_value = record {
  answer = λ l n t e vs m u f. refl;
  inside = λ t a n e. cc;
}

a_value : {version : ℕ} {s : List ℕ} {fields start i : ℕ} {v : Answer Value} → ValueAt version s fields start i v → Kept version s fields start (Some i) v
unfolding at_index
a_value k = record { answer = k.answer; inside = k.inside }

pub keep_last : {version : ℕ} {s : List ℕ} {fields start field at passed : ℕ} {i : Answer ℕ} {v : Answer Value} → Keeping version s fields start field at passed i v → {n : ℕ}
    → Ok (Last n) ≡ entry_of (field + 8) (entry_with unchecked_str field (drop field s)) → Kept version s fields start i v
keep_last nowhere e = no_value
keep_last (ahead h k) e = a_value (go_none k (λ t a b m z. last≢field e z))
keep_last (behind h k) e = a_value k

-- what is accepted ends where it does without the checks
unchecked : (version type : ℕ) (s : List ℕ) (at : ℕ) {end : ℕ} → Ok end ≡ end_of (value_parser version type at (drop at s))
    → Ok end ≡ end_of (unchecked_value version type at (drop at s))
unchecked version type s at h = sym (value_same version type at (drop at s) (next_ok (value_exact version type) s at h).1)

module _ {version : ℕ} {s : List ℕ} {fields start field at passed : ℕ} where
  pub keep_next : {i : Answer ℕ} {v : Answer Value} → Keeping version s fields start field at passed i v → {type a b next : ℕ}
      → Ok (Definition type a b next) ≡ entry_of (field + 8) (entry_with unchecked_str field (drop field s))
      → {end : ℕ} → Ok end ≡ end_of (value_parser version type at (drop at s))
      → Keeping version s fields start next end (passed + 1) i (kept_of i passed v (record { type_id = type; at = at; next = end }))
  keep_next nowhere e h = nowhere
  keep_next (ahead {i} l k) {type} {next = next} e {end} h = go (eqb i passed) refl
    where
      go : (b : Bool) → eqb i passed ≡ b → Keeping version s fields start next end (passed + 1) (Some i) (cond b (found type at end) None)
      go true z = let y = eqb-true i passed z in behind {i = i} (omega (arith, y)) (go_here k e (unchecked version type s at h) (sym y))
      go false z =
          let y : passed < i = omega (arith, eqb-false i passed z) in
          ahead {i = i} (omega arith) (go_on k e (unchecked version type s at h) y)
  keep_next (behind {i} {v} l k) e h = rw (ne_eqb i passed (λ z. omega (arith, z))) (behind {i = i} (omega arith) k)

-- ---- all of them read

counted_bad : (n : ℕ) {f : Refusal} (r : Outcome ℕ Refusal) → Err f ≡ counted_end n r → Err f ≡ r
counted_bad n (Ok m) e = cc
counted_bad n (Err g) e = cc

counted_end_law : (n : ℕ) {c m : ℕ} (r : Outcome ℕ Refusal) → counted c m ≡ counted_end n r → Ok m ≡ r
counted_end_law n {c} {m} (Ok k) e =
    let w : ◌≡◌ {A = Counted} (record { count = c; next = m }) (record { count = n; next = k }) = cc in
    ap (λ (c : Counted). Ok c.next) w
counted_end_law n (Err g) e = cc

module _ {version : ℕ} {s : List ℕ} {fields start : ℕ} where
  pub values_bad : {f : Refusal} → ValuesEnd version s fields start (Err f) → (i : Answer ℕ) → ValuesRead version s fields start i (Err f)
  unfolding answering
  values_bad w i = record { answer = λ l n t e. sym (rw (fault_at_law _ (counted_bad _ _ (w.ends l n t e)))); inside = λ t a n z. cc }

  pub values_read : {c m : ℕ} → ValuesEnd version s fields start (counted c m) → {i : Answer ℕ} {v : Answer Value} → Kept version s fields start i v
      → ValuesRead version s fields start i (Ok v)
  unfolding answering
  values_read w {i} k = record {
    answer = λ l n t e.
        let q = next_ok (values_exact version l.fields) s start (counted_end_law _ _ (w.ends l n t e)) in
        ap gives (k.answer l n t e q.0 _ _ q.1) ∙ sym (ap (λ z. answering z (λ vs. gives (value_of start vs (index_is i)))) q.1);
    inside = λ t a n z. k.inside t a n (cc);
  }

-- ---- the field by them

or_field : Reply (Option FieldAnswer) → Reply FieldAnswer
or_field (gives o) = or_absent o
or_field (refuses f) = refuses f

or_field_law : (q : Result (List DataValue)) (g : List DataValue → Option FieldAnswer) → or_field (answering q (λ vs. gives (g vs))) ≡ answering q (λ vs. or_absent (g vs))
unfolding answering or_field
or_field_law (ok vs n r) g = refl
or_field_law (fault x) g = refl

module _ {version : ℕ} {s : List ℕ} {fields start : ℕ} {name : List ℕ} {i : Answer ℕ} (x : IndexOf s fields name i) where
  reads : {r : Outcome (Answer Value) Refusal} → ValuesRead version s fields start i r
      → (l : Fields) (n : ℕ) (t : List ℕ) → fields_parser fields (drop fields s) ≡ ok l n t
      → or_field (values_is s r) ≡ answering (data_values_parser version l.fields start (drop start s)) (λ vs. or_absent (value_of start vs (field_index name l.fields)))
  reads w l n t e =
      ap or_field (w.answer l n t e) ∙ or_field_law _ _
      ∙ ap (λ o. answering (data_values_parser version l.fields start (drop start s)) (λ vs. or_absent (value_of start vs o))) (x.first l n t e)

  pub field_bad : {f : Refusal} → ValuesRead version s fields start i (Err f) → FieldRead version s fields start name (Err f)
  unfolding or_field
  field_bad w = record { reply = λ l n t e. reads w l n t e; inside = λ f z. cc }

  module _ {r : Answer Value} (w : ValuesRead version s fields start i (Ok r)) where
    pub field_absent : r ≡ None → FieldRead version s fields start name (Err (refused_at absent 0))
    unfolding or_field or_refuse
    field_absent z = record { reply = λ l n t e. ap (λ r. or_field (values_is s (Ok r))) (sym z) ∙ reads w l n t e; inside = λ f z. cc }

    module _ {v : Value} (z : r ≡ Some v) where
      within : (v.at < v.next) × (v.next ≤ length s)
      within = w.inside v.type_id v.at v.next (ap Ok z)

      pub field_room : v.at ≤ v.next
      field_room = omega (arith, within.0)

      pub field_value : FieldRead version s fields start name (Ok (record { type_id = v.type_id; part = v.at; part_size = v.next - v.at }))
      unfolding or_field or_refuse
      field_value = record {
        reply = λ l n t e. ap (λ r. or_field (values_is s (Ok r))) (sym z) ∙ reads w l n t e;
        inside = λ f y.
            let j : record { type_id = v.type_id; part = v.at; part_size = v.next - v.at } ≡ f = cc in
            omega (arith, within, ap (λ (f : Field). f.part) j, ap (λ (f : Field). f.part_size) j);
      }
