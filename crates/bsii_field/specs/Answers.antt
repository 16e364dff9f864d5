-- What the code's answers mean, in the specification's terms: wherever the format accepts the definitions, and the values.
use Rattle.std.specs.Prelude.{◌≡◌, ℕ, ◌-◌, ◌≤◌, ◌<◌, List, length, take, drop, Option as Answer, Some, None}
use Rattle.std.proofs.Math.Option.{Option, none, some, map}
use Rattle.std.proofs.Math.ListN.{get_elem?}
use Rattle.bsii_format.specs.Reader.{ok}
use Rattle.bsii_format.specs.Prototypes.{Fields, fields_parser}
use Rattle.bsii_format.specs.Blocks.{DataValue, data_values_parser}
use Rattle.bsii_format.specs.Calls.{placed, field_index, FieldAnswer, field_answer}
use Rattle.bsii_field.specs.declared.Value.{Value}

abbrev pub index_is : Answer ℕ → Option ℕ
index_is (Some i) = some i
index_is None = none

-- the position of the name among the definitions from `fields` on
pub record IndexOf (s : List ℕ) (fields : ℕ) (name : List ℕ) (r : Answer ℕ) : Type 0 where
  pub first : (l : Fields) (n : ℕ) (t : List ℕ) → fields_parser fields (drop fields s) ≡ ok l n t → index_is r ≡ field_index name l.fields

-- a value that is found, by its parts
abbrev pub found : ℕ → ℕ → ℕ → Answer Value
found t at next = Some (record { type_id = t; at = at; next = next })

-- the part of the file s from `at` to `next`
abbrev pub found_is : List ℕ → Answer Value → Option FieldAnswer
found_is s (Some v) = some (record { type_id = v.type_id; part = record { offset = v.at; size = v.next - v.at }; bytes = take (v.next - v.at) (drop v.at s) })
found_is s None = none

-- the value of that index among those from `start` on
pub record ValueAt (version : ℕ) (s : List ℕ) (fields start index : ℕ) (r : Answer Value) : Type 0 where
  pub answer : (l : Fields) (n : ℕ) (t : List ℕ) → fields_parser fields (drop fields s) ≡ ok l n t
      → (vs : List DataValue) (m : ℕ) (u : List ℕ) → data_values_parser version l.fields start (drop start s) ≡ ok vs m u
      → found_is s r ≡ map field_answer (get_elem? (placed (λ (v : DataValue). length v.raw) start vs) index)
  -- for every input: a part lies in the file and is not empty
  pub inside : (t at next : ℕ) → r ≡ found t at next → (at < next) × (next ≤ length s)
