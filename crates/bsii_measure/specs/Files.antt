-- The whole file, read and measured.
use Rattle.std.specs.Prelude.{◌≡◌, ℕ, ◌*◌, ◌≤◌, List, length, drop, Ok, Err, Result as Outcome}
use Rattle.bsii_format.specs.Reader.{ok}
use Rattle.bsii_format.specs.File.{BsiiFile, length_limit, parse}
use Rattle.bsii_format.specs.Text.{value_text}
use Rattle.bsii_format.specs.BlockText.{every_block, file_text}
use Rattle.bsii_format.specs.Calls.{steps_of}
use Rattle.bsii_derived.specs.Forecast.{largest_in}
use Rattle.bsii_length.specs.Bounds.{line_bound}
use Rattle.bsii_parse.specs.Walks.{ReadTree, ReadFile}
use Rattle.bsii_string.specs.declared.answers.Refusal.{Refusal}
use Rattle.bsii_parse.specs.declared.walk.Totals.{Totals}
use Rattle.bsii_measure_block.specs.Sums.{measure_of}
use Rattle.bsii_measure.specs.Walks.{text_sum, TallyOf}
use Rattle.bsii_measure.specs.declared.walk.Tally.{Tally}
use Rattle.bsii_measure.specs.declared.walk.Measuring.{Measuring}

-- what the reading call's walk finds
abbrev pub reading_of : Outcome Measuring Refusal → Outcome Totals Refusal
reading_of (Ok r) = Ok r.totals
reading_of (Err f) = Err f

-- the blocks' sum, without the file's frame
abbrev pub BlocksSum : BsiiFile → Outcome Measuring Refusal → Type 0
BlocksSum f (Ok r) = TallyOf (length f.header.raw) f.records r.tally × (r.tally.text.to ≤ line_bound * length_limit)
BlocksSum f (Err x) = Unit {0}

pub record MeasuresTree (s t : List ℕ) (r : Outcome Measuring Refusal) (t' : List ℕ) : Type 0 where
  pub reads : ReadTree s t (reading_of r) t'
  pub sums : (f : BsiiFile) (n : ℕ) → parse (length t) s ≡ ok f n (drop n s) → BlocksSum f r

-- With as many rows as prototypes no id is defined twice; then the sum is the length of the file's text, or its 9.
pub record FileTally (f : BsiiFile) (rows prototypes : ℕ) (m : Tally) : Type 0 where
  pub text : rows ≡ prototypes → text_sum m ≡ measure_of (file_text value_text every_block f)
  pub steps : m.steps ≡ steps_of f
  pub largest : m.largest ≡ largest_in f.records

abbrev pub FileSum : BsiiFile → Outcome Measuring Refusal → Type 0
FileSum f (Ok r) = FileTally f r.totals.rows r.totals.prototypes r.tally
FileSum f (Err x) = Unit {0}

pub record MeasuresFile (s t : List ℕ) (r : Outcome Measuring Refusal) (t' : List ℕ) : Type 0 where
  pub reads : ReadFile s t (reading_of r) t'
  pub sums : (f : BsiiFile) (n : ℕ) → parse (length t) s ≡ ok f n (drop n s) → FileSum f r
