-- Data blocks, and the definitions in force: document 01, "Data block: u32 prototype id, not zero, which must be defined earlier; an
-- id; one value per definition in force, in order"; FORMAT.md, "Data blocks".
use Rattle.std.specs.Prelude.{ℕ, cond, List, [], ◌∷◌, eqb}
use Rattle.std.proofs.Math.Option.{Option, none, some}
use Rattle.bsii_format.specs.Reader.{Reader, success, Consumed, consumed, ◌>>=◌, ◌<$>◌}
use Rattle.bsii_format.specs.Strings.{Id}
use Rattle.bsii_format.specs.Values.{Value, value_parser}
use Rattle.bsii_format.specs.Prototypes.{ValuePrototype, Prototype}

-- a value of a block with the type in force when it was read
pub record DataValue : Type 0 where
  pub type_id : ℕ
  pub value : Value
  pub raw : List ℕ

-- `head` is the bytes of the prototype id
pub record DataBlock : Type 0 where
  pub head : List ℕ
  pub prototype_id : ℕ
  pub id : Consumed Id
  pub values : List DataValue

-- the first of a list with a given number
unfoldable pub find_by : {A : Type 0} → (A → ℕ) → ℕ → List A → Option A
find_by number n [] = none
find_by number n (a ∷ l) = cond (eqb n (number a)) (some a) (find_by number n l)

-- All definitions so far, the last one first: "A prototype id defined again replaces the earlier one". At a block's place this is the
-- definition in force there; with all definitions of the file it is the last one.
abbrev pub get_prototype : ℕ → List Prototype → Option Prototype
get_prototype = find_by (λ (p : Prototype). p.id)

unfoldable pub data_value : ℕ → Consumed Value → DataValue
data_value t v = record { type_id = t; value = v.value; raw = v.raw }

module _ (version : ℕ) where
  unfoldable pub data_value_parser : ℕ → Reader DataValue
  data_value_parser t = data_value t <$> consumed (value_parser version t)

  unfoldable pub data_values_parser : List (Consumed ValuePrototype) → Reader (List DataValue)
  data_values_parser [] = success []
  data_values_parser (f ∷ fs) = do
    v ← data_value_parser f.value.type_id
    l ← data_values_parser fs
    success (v ∷ l)
