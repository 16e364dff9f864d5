-- A field by block number and name.
use mathlib.Core.Path.{◌≡◌, sym, ap, ◌∙◌}
use Prim.Native.Nat.{ℕ, ◌+◌, ◌-◌, ◌≤◌, ◌<◌}
use native.Mathlib.Omega.{arith}
use mathlib.Core.Option.{map}
use mathlib.Core.List.{List}
use lib.ListN.{length, drop, get_elem?}
use Rattle.bsii_format.specs.Prototypes.{Prototype, fields_parser}
use Rattle.bsii_format.specs.Blocks.{DataBlock, DataValue, get_prototype, data_values_parser}
use Rattle.bsii_format.specs.File.{prototypes_of}
use Rattle.bsii_format.specs.Calls.{Placed, placed, at_index, field_under, field_in, field_answer, field_of, field_call, or_absent}
use Rattle.bsii_format.specs.Replies.{absent}
use Rattle.bsii_format.specs.BlockText.{or_refuse, values_offset}
use Rattle.bsii_string.specs.Answers.{refused_at, end_of}
use Rattle.bsii_string.specs.declared.answers.Refusal.{Refusal}
use Rattle.bsii_string.proofs.Ends.{next≢fault, next_same}
use Rattle.bsii_prototype.specs.Entries.{unchecked_head}
use Rattle.bsii_skip.specs.Unchecked.{unchecked_id}
use Rattle.bsii_skip.proofs.Values.{id_same}
use Rattle.bsii_field.specs.Answers.{index_is, IndexOf, ValueAt}
use Rattle.bsii_field.specs.declared.Value.{Value}
use Rattle.bsii_walk.specs.Seek.{BlockIs}
use Rattle.bsii_walk.specs.declared.records.Block.{Block}
use Rattle.bsii_walk.specs.declared.seek.Found.{Found}
use Rattle.bsii_walk.proofs.Naming.{standing}
use Rattle.bsii_file.specs.Lookups.{SoughtIn}
use Rattle.bsii_file.proofs.BlockCalls.{is_there, there_answers, sought_refused, any_is}
use Rattle.bsii_file_field.specs.FieldAnswers.{FieldFound, FieldPlaced, FieldRead}
use Rattle.bsii_file_field.specs.declared.answers.Field.{Field}
use Rattle.std.specs.Prelude.{Ok, Err, Result as Outcome, Some, None, Option as Answer}

-- ---- the value in a block

-- what was accepted is not refused
module _ {version : ℕ} {s : List ℕ} {b : Block} {name : List ℕ} where
  nothing : ((last : List Prototype) (y : Placed DataBlock) → BlockIs version s last b y → ⊥) → FieldFound version s b name None
  nothing h = record { answers = λ last y q. absurd (h last y q); inside = λ t a n z. cc }

  pub named_fault : {f : Refusal} → Err f ≡ end_of (unchecked_head b.last (drop b.last s)) → FieldFound version s b name None
  named_fault e = nothing (λ last y q. next≢fault (sym (standing s b.last e q.q q.named)))

  pub under_fault : {f : Refusal} → Err f ≡ end_of (unchecked_head b.under (drop b.under s)) → FieldFound version s b name None
  under_fault e = nothing (λ last y q. next≢fault (sym (standing s b.under e q.p q.in_force)))

  pub id_fault : {f : Refusal} → Err f ≡ end_of (unchecked_id b.id (drop b.id s)) → FieldFound version s b name None
  id_fault e = nothing (λ last y q. next≢fault (sym (e ∙ id_same b.id (drop b.id s) q.id)))

  module _ {f : ℕ} (e : Ok f ≡ end_of (unchecked_head b.last (drop b.last s))) {i : Answer ℕ} (x : IndexOf s f name i) where
    -- what the definitions' own search gives
    under_is : (last : List Prototype) (y : Placed DataBlock) → BlockIs version s last b y
        → field_under name y (get_prototype y.it.prototype_id last) ≡ at_index (placed (λ (v : DataValue). length v.raw) (values_offset y.offset y.it) y.it.values) (index_is i)
    unfolding field_under
    under_is last y q =
        let z : f ≡ q.named.fields = next_same (standing s b.last e q.q q.named) in
        let w = x.first _ _ _ (ap (λ (n : ℕ). fields_parser n (drop n s)) z ∙ q.named.list) in
        ap (field_under name y) q.last_is ∙ ap (at_index (placed (λ (v : DataValue). length v.raw) (values_offset y.offset y.it) y.it.values)) (sym w)

    pub field_absent : i ≡ None → FieldFound version s b name None
    unfolding at_index
    field_absent z = record {
      answers = λ last y q. sym (ap (map field_answer) (under_is last y q ∙ ap (λ j. at_index (placed (λ (v : DataValue). length v.raw) (values_offset y.offset y.it) y.it.values) (index_is j)) z));
      inside = λ t a n w. cc;
    }

    module _ {j : ℕ} (z : i ≡ Some j) {g : ℕ} (e₂ : Ok g ≡ end_of (unchecked_head b.under (drop b.under s)))
        {start : ℕ} (e₃ : Ok start ≡ end_of (unchecked_id b.id (drop b.id s))) {r : Answer Value} (v : ValueAt version s g start j r) where
      pub field_value : FieldFound version s b name r
      unfolding at_index values_offset
      field_value = record {
        answers = λ last y q.
            let a : g ≡ q.in_force.fields = next_same (standing s b.under e₂ q.p q.in_force) in
            let c : start ≡ b.id + length y.it.id.raw = next_same (e₃ ∙ id_same b.id (drop b.id s) q.id) in
            let d : start ≡ values_offset y.offset y.it = c ∙ ap (λ (n : ℕ). n + length y.it.id.raw) q.id_place in
            let w = v.answer _ _ _ (ap (λ (n : ℕ). fields_parser n (drop n s)) a ∙ q.in_force.list) y.it.values _ _
            (ap (λ (n : ℕ). data_values_parser version q.p.fields n (drop n s)) c ∙ q.values) in
            w ∙ ap (λ (n : ℕ). map field_answer (get_elem? (placed (λ (v : DataValue). length v.raw) n y.it.values) j)) d
            ∙ sym (ap (map field_answer) (under_is last y q ∙ ap (λ j. at_index (placed (λ (v : DataValue). length v.raw) (values_offset y.offset y.it) y.it.values) (index_is j)) z));
        inside = v.inside;
      }

-- ---- as a reply

module _ {version : ℕ} {s : List ℕ} {b : Block} {name : List ℕ} where
  pub placed_absent : FieldFound version s b name None → FieldPlaced version s b name (Err (refused_at absent 0))
  unfolding or_refuse
  placed_absent h = record { answers = λ last y q. ap or_absent (h.answers last y q); inside = λ f z. cc }

  module _ {v : Value} (h : FieldFound version s b name (Some v)) where
    within : (v.at < v.next) × (v.next ≤ length s)
    within = h.inside v.type_id v.at v.next (cc)

    pub placed_room : v.at ≤ v.next
    placed_room = omega (arith, within.0)

    pub placed_value : FieldPlaced version s b name (Ok (record { type_id = v.type_id; part = v.at; part_size = v.next - v.at }))
    unfolding or_refuse
    placed_value = record {
      answers = λ last y q. ap or_absent (h.answers last y q);
      inside = λ f z.
          let j : record { type_id = v.type_id; part = v.at; part_size = v.next - v.at } ≡ f = cc in
          omega (arith, within, ap (λ (f : Field). f.part) j, ap (λ (f : Field). f.part_size) j);
    }

-- ---- the call

module _ {words : ℕ} {s : List ℕ} {k : ℕ} {name : List ℕ} where
  pub field_refused : {x : Refusal} → SoughtIn words s None k (Err x) → FieldRead words s k name (Err x)
  unfolding field_call field_of field_in
  field_refused h = record {
    reply = sought_refused (field_of k name) (λ f z. ap (λ o. map field_answer (field_in name (prototypes_of f.records) o)) (sym (any_is f k z))) h;
    inside = λ f z. cc;
  }

  pub field_answers : {p : ℕ × Found} → SoughtIn words s None k (Ok p) → {r : Outcome Field Refusal} → FieldPlaced p.0 s p.1.block name r → FieldRead words s k name r
  unfolding field_call field_of field_in or_refuse
  field_answers h v =
      let x = is_there h in
      record {
        reply = v.answers _ x.block x.parts ∙ ap (λ o. or_absent (map field_answer (field_in name (prototypes_of x.file.records) o))) (any_is x.file k x.found)
            ∙ there_answers (field_of k name) x;
        inside = v.inside;
      }
