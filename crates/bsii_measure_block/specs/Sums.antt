-- A text that is only measured, and the two numbers that a walk keeps of it.
use Rattle.std.specs.Prelude.{◌≡◌, ℕ, ◌+◌, ◌*◌, ◌≤◌, ◌<◌, List, length, Ok, Err, Result as Answer, Some, None, Option}
use Rattle.std.specs.Option.{option_or}
use Rattle.bsii_format.specs.Replies as replies
use Rattle.bsii_format.specs.Replies.{Reply, gives, refuses, refusal, enum_value}
use Rattle.bsii_format.specs.File.{length_limit}
use Rattle.bsii_length.specs.Bounds.{line_bound}
use Rattle.bsii_string.specs.Answers.{fault_is}
use Rattle.bsii_string.specs.declared.answers.Refusal.{Refusal}
use Rattle.bsii_measure_block.specs.declared.sums.Sum.{Sum}
use Rattle.bsii_measure_block.specs.declared.sums.Summed.{Summed}
use Rattle.bsii_measure_block.specs.declared.sums.SummedBlock.{SummedBlock}

-- its length, or its refusal
unfoldable pub measure_of : Reply (List ℕ) → Reply ℕ
measure_of (gives t) = gives (length t)
measure_of (refuses f) = refuses f

-- one behind the other; the first refusal wins
unfoldable pub plus : Reply ℕ → Reply ℕ → Reply ℕ
plus (gives a) (gives b) = gives (a + b)
plus (gives a) (refuses f) = refuses f
plus (refuses f) b = refuses f

-- the length so far, or 9 at the first enum value that is not in its list
unfoldable pub sum_is : ℕ → Option ℕ → Reply ℕ
sum_is to None = gives to
sum_is to (Some o) = refusal enum_value o

abbrev pub first_missing : Sum → ℕ → Sum
first_missing sum at = record { to = sum.to; missing = option_or sum.missing (Some at) }

-- where what was read ends, and the sum with it; or a fault of the reading, which comes first
pub data Outcome : Type 0 where
  sums : ℕ → Reply ℕ → Outcome
  stops : replies.Fault → Outcome

abbrev pub summed_is : Answer Summed Refusal → Outcome
summed_is (Ok r) = sums r.at (sum_is r.sum.to r.sum.missing)
summed_is (Err f) = stops (fault_is f)

abbrev pub block_is : Answer SummedBlock Refusal → Outcome
block_is (Ok r) = sums r.at (sum_is r.sum.to r.sum.missing)
block_is (Err f) = stops (fault_is f)

-- a block that is read has k values
abbrev pub Counts : ℕ → Answer SummedBlock Refusal → Type 0
Counts k (Ok r) = r.values ≡ k
Counts k (Err f) = Unit {0}

-- a position in a file within the length limit, and the sum of the text in front of it, which is so short that no sum wraps
pub record Room (s : List ℕ) (at : ℕ) (sum : Sum) : Type 0 where
  pub short : length s ≤ length_limit
  pub inside : at ≤ length s
  pub fits : sum.to ≤ line_bound * at

-- for every input: a value has a byte
abbrev pub SumFits : List ℕ → ℕ → Answer Summed Refusal → Type 0
SumFits s at (Ok r) = (at < r.at) × (r.at ≤ length s) × (r.sum.to ≤ line_bound * r.at)
SumFits s at (Err f) = Unit {0}

abbrev pub BlockFits : List ℕ → ℕ → Answer SummedBlock Refusal → Type 0
BlockFits s at (Ok r) = (at + r.values ≤ r.at) × (r.at ≤ length s) × (r.sum.to ≤ line_bound * r.at)
BlockFits s at (Err f) = Unit {0}
