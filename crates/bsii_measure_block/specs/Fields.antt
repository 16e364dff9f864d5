-- The values of a block, measured.
use Rattle.std.specs.Prelude.{◌≡◌, ℕ, List, length, drop, Result as Answer}
use Rattle.std.proofs.Math.Option.{Option}
use Rattle.bsii_format.specs.Replies.{Reply, enum_value}
use Rattle.bsii_format.specs.Reader.{Result, ok, fault, Consumed}
use Rattle.bsii_format.specs.Values.{Value, value_parser}
use Rattle.bsii_format.specs.Prototypes.{ValuePrototype, Fields, fields_parser}
use Rattle.bsii_format.specs.Blocks.{DataValue, data_values_parser}
use Rattle.bsii_format.specs.Text.{value_text}
use Rattle.bsii_format.specs.BlockText.{or_refuse, fields_text}
use Rattle.bsii_string.specs.declared.answers.Refusal.{Refusal}
use Rattle.bsii_definition.specs.Pairs.{Describes}
use Rattle.bsii_definition.specs.declared.pairs.Definition.{Definition}
use Rattle.bsii_measure_block.specs.Sums.{measure_of, plus, sum_is, Outcome, sums, stops, summed_is, block_is, Counts, SumFits, BlockFits}
use Rattle.bsii_measure_block.specs.declared.sums.Sum.{Sum}
use Rattle.bsii_measure_block.specs.declared.sums.Summed.{Summed}
use Rattle.bsii_measure_block.specs.declared.sums.SummedBlock.{SummedBlock}

module _ (text : ValuePrototype → Value → Option (List ℕ)) where
  -- a value at the offset `at`, under its definition, behind a sum
  unfoldable pub field_sum : Reply ℕ → ValuePrototype → ℕ → Result Value → Outcome
  field_sum before f at (ok v n r) = sums n (plus before (measure_of (or_refuse enum_value at (text f v))))
  field_sum before f at (fault x) = stops x

  -- values from `at` on, under the definitions fs
  unfoldable pub values_sum : Reply ℕ → ℕ → List (Consumed ValuePrototype) → Result (List DataValue) → Outcome
  values_sum before at fs (ok l n r) = sums n (plus before (measure_of (fields_text text at fs l)))
  values_sum before at fs (fault x) = stops x

pub record FieldSummed (version : ℕ) (s : List ℕ) (at : ℕ) (d : Definition) (sum : Sum) (r : Answer Summed Refusal) : Type 0 where
  pub is : (f : ValuePrototype) → Describes s d f
      → summed_is r ≡ field_sum value_text (sum_is sum.to sum.missing) f at (value_parser version d.type_id at (drop at s))
  pub fine : SumFits s at r

-- an enum value is the same in every version
pub record EnumSummed (s : List ℕ) (at : ℕ) (d : Definition) (sum : Sum) (r : Answer Summed Refusal) : Type 0 where
  pub in_version : (version : ℕ) → FieldSummed version s at d sum r

pub record ValuesSummed (version : ℕ) (s : List ℕ) (fields start : ℕ) (before : Sum) (r : Answer SummedBlock Refusal) : Type 0 where
  pub is : (l : Fields) (n : ℕ) (t : List ℕ) → fields_parser fields (drop fields s) ≡ ok l n t
      → block_is r ≡ values_sum value_text (sum_is before.to before.missing) start l.fields (data_values_parser version l.fields start (drop start s))
  pub counts : (l : Fields) (n : ℕ) (t : List ℕ) → fields_parser fields (drop fields s) ≡ ok l n t → Counts (length l.fields) r
  pub fine : BlockFits s start r
