-- A block, measured.
use Rattle.std.specs.Prelude.{◌≡◌, ℕ, ◌+◌, ◌-◌, ◌*◌, ◌≤◌, List, length, drop, Result as Answer}
use Rattle.std.proofs.Math.Option.{Option}
use Rattle.bsii_format.specs.Replies.{Reply, gives}
use Rattle.bsii_format.specs.Reader.{Result, ok, fault}
use Rattle.bsii_format.specs.Strings.{Id, id_parser}
use Rattle.bsii_format.specs.Values.{Value}
use Rattle.bsii_format.specs.Prototypes.{ValuePrototype, Prototype}
use Rattle.bsii_format.specs.Blocks.{data_values_parser}
use Rattle.bsii_format.specs.File.{length_limit}
use Rattle.bsii_format.specs.Text.{value_text}
use Rattle.bsii_format.specs.BlockText.{block_opening, closing}
use Rattle.bsii_length.specs.Bounds.{line_bound}
use Rattle.bsii_string.specs.declared.answers.Refusal.{Refusal}
use Rattle.bsii_block.specs.Blocks.{DefinedAt}
use Rattle.bsii_measure_block.specs.Sums.{plus, sum_is, Outcome, stops, block_is, Counts, BlockFits}
use Rattle.bsii_measure_block.specs.Fields.{values_sum}
use Rattle.bsii_measure_block.specs.declared.sums.Sum.{Sum}
use Rattle.bsii_measure_block.specs.declared.sums.SummedBlock.{SummedBlock}

-- a name from o + 13 to `first`, an id's text of this length, and the 8 bytes around them
abbrev pub framed_by : Sum → ℕ → ℕ → ℕ → Sum
framed_by sum o first id = record { to = sum.to + (first - (o + 13) + id + 8); missing = sum.missing }

-- so that this sum fits
pub record Framed (sum : Sum) (o first id : ℕ) : Type 0 where
  pub begun : sum.to ≤ line_bound * length_limit
  pub named : o + 13 ≤ first
  pub inside : first ≤ length_limit
  pub short : id ≤ line_bound

-- a block under the prototype p from its own id on, behind a sum: the first and the last line, and the values between them
unfoldable pub block_sum : (ValuePrototype → Value → Option (List ℕ)) → ℕ → Reply ℕ → Prototype → Result Id → Outcome
block_sum text version before p (ok i at r) =
    values_sum text (plus before (gives (length (block_opening p.name i) + length closing))) at p.fields (data_values_parser version p.fields at r)
block_sum text version before p (fault x) = stops x

pub record BlockSummed (version : ℕ) (s : List ℕ) (o at : ℕ) (sum : Sum) (r : Answer SummedBlock Refusal) : Type 0 where
  pub is : (p : Prototype) → DefinedAt s o p → block_is r ≡ block_sum value_text version (sum_is sum.to sum.missing) p (id_parser at (drop at s))
  pub counts : (p : Prototype) → DefinedAt s o p → Counts (length p.fields) r
  pub fine : BlockFits s at r
