-- The length of the text of a file that was read.
use Rattle.std.specs.Prelude.{◌≡◌, ℕ, ◌<◌, Bool, List, [], length, Ok, Err, Result as Outcome}
use Rattle.std.proofs.Math.Option.{Option}
use Rattle.bsii_format.specs.Replies.{Reply, gives, refuses}
use Rattle.bsii_format.specs.Values.{Value}
use Rattle.bsii_format.specs.Prototypes.{ValuePrototype, Prototype}
use Rattle.bsii_format.specs.Blocks.{DataBlock}
use Rattle.bsii_format.specs.File.{Record}
use Rattle.bsii_format.specs.BlockText.{joined, file_opening, closing, records_text}
use Rattle.bsii_string.specs.Answers.{fault_is}
use Rattle.bsii_parse.specs.declared.walk.Totals.{Totals}
use Rattle.bsii_walk.specs.Seek.{WalkAt}
use Rattle.bsii_measure_block.specs.Sums.{measure_of, sum_is}
use Rattle.bsii_measure_block.specs.declared.sums.Sum.{Sum}
use Rattle.bsii_string.specs.declared.answers.Refusal.{Refusal}

abbrev pub length_is : Outcome ℕ Refusal → Reply ℕ
length_is (Ok n) = gives n
length_is (Err f) = refuses (fault_is f)

-- `text` gives the lines of a value: `value_text` in the text call. `prints` tells of a block and the records behind it whether it is in the text:
-- `every_block` in the text call.
module _ (text : ValuePrototype → Value → Option (List ℕ)) (prints : DataBlock → List Record → Bool) where
  -- the text of records that start at the offset 8
  abbrev pub framed_text : List Prototype → List Record → Reply (List ℕ)
  framed_text last l = joined (joined (gives file_opening) (records_text text prints last 8 l)) (gives closing)

  -- so short that the writers' positions are exact
  abbrev pub Bounded : List Prototype → List Record → Type 0
  Bounded last l = (x : List ℕ) → framed_text last l ≡ gives x → length x < 0x4000_0000_0000_0000

  -- the text's length or its refusal; with a length the table t is left fit for one more walk
  pub record LengthIs (version : ℕ) (s : List ℕ) (rooms rows : ℕ) (last : List Prototype) (rest : List Record) (r : Outcome ℕ Refusal) (t : List ℕ) : Type 0 where
    pub is : length_is r ≡ measure_of (framed_text last rest)
    pub serves : (n : ℕ) → r ≡ Ok n → WalkAt version s rooms rows last t 8 [] rest

  pub record LengthRead (version : ℕ) (s t : List ℕ) (rows : ℕ) (r : Outcome ℕ Refusal) (t' : List ℕ) : Type 0 where
    pub answers : (rooms : ℕ) (last : List Prototype) (rest : List Record) → WalkAt version s rooms rows last t 8 [] rest → Bounded last rest
        → LengthIs version s rooms rows last rest r t'

  -- the same, with a sum that is the text's where no id is defined again
  pub record LengthTold (a : Totals) (s t : List ℕ) (sum : Sum) (r : Outcome ℕ Refusal) (t' : List ℕ) : Type 0 where
    pub answers : (rooms : ℕ) (last : List Prototype) (rest : List Record) → WalkAt a.version s rooms a.rows last t 8 [] rest → Bounded last rest
        → (a.rows ≡ a.prototypes → sum_is sum.to sum.missing ≡ measure_of (framed_text last rest)) → LengthIs a.version s rooms a.rows last rest r t'
