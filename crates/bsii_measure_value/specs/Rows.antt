-- Rows of elements and whole values, measured.
use Rattle.std.specs.Prelude.{◌≡◌, ℕ, ◌+◌, ◌*◌, ◌≤◌, ◌<◌, List, length, drop, Ok, Err, Result as Outcome}
use Rattle.std.proofs.Math.Option.{Option}
use Rattle.bsii_format.specs.Reader.{WellFormed, consumed, repeat}
use Rattle.bsii_format.specs.Types.{Numeric, width, arity, Kind, numbers, Shape}
use Rattle.bsii_format.specs.Values.{Element, element_parser, shape_parser, value_parser}
use Rattle.bsii_length.specs.Bounds.{element_bound, line_bound}
use Rattle.bsii_measure_string.specs.Measured.{long_at, measured, element_size, line_size, row_size, value_size}
use Rattle.bsii_measure_string.specs.declared.answers.Measured.{Measured}
use Rattle.bsii_string.specs.declared.answers.Refusal.{Refusal}

-- an element that is numbers, by its own bytes
pub record ElementLength (k : Numeric) (raw : List ℕ) (r : ℕ) : Type 0 where
  pub is : (e : Element) → WellFormed (element_parser (numbers k)) e raw → r ≡ element_size e
  -- whatever the bytes: so that sums do not wrap
  pub small : r < 256

-- ---- rows

-- for every input: inside the file, and so few bytes of text for each that was passed that sums do not wrap
abbrev pub RowFine : List ℕ → ℕ → Outcome Measured Refusal → Type 0
RowFine s at (Ok m) = (at ≤ m.at) × (m.at ≤ length s) × (m.long + line_bound * at ≤ line_bound * m.at)
RowFine s at (Err f) = Unit {0}

-- so many elements, each with its line, under a name of so many bytes
pub record RowMeasured (s : List ℕ) (start count : ℕ) (k : Kind) (name : ℕ) (r : Outcome Measured Refusal) : Type 0 where
  pub is : r ≡ measured (row_size (line_size name) 0) (repeat count (consumed (element_parser k)) start (drop start s))
  pub fine : RowFine s start r

-- the length of a row of numbers, whose end is known
abbrev pub RowLength : List ℕ → ℕ → ℕ → Numeric → ℕ → ℕ → Type 0
RowLength s start count k name r = RowMeasured s start count (numbers k) name (long_at (start + count * (arity k * width k)) r)

-- ---- values

-- the line of a single element
abbrev pub line_of : ℕ → Outcome Measured Refusal → Outcome Measured Refusal
line_of name (Ok m) = long_at m.at (name + 5 + m.long)
line_of name (Err f) = Err f

abbrev pub Short : Outcome Measured Refusal → Type 0
Short (Ok m) = m.long ≤ element_bound
Short (Err f) = Unit {0}

-- the same; and a value has a byte
abbrev pub ValueFine : List ℕ → ℕ → Outcome Measured Refusal → Type 0
ValueFine s at (Ok m) = (at < m.at) × (m.at ≤ length s) × (m.long + line_bound * at ≤ line_bound * m.at)
ValueFine s at (Err f) = Unit {0}

-- a value's lines: all of its text where it is no enum value
pub record ShapeMeasured (s : List ℕ) (at : ℕ) (shape : Option Shape) (name : ℕ) (r : Outcome Measured Refusal) : Type 0 where
  pub is : r ≡ measured (value_size name) (shape_parser shape at (drop at s))
  pub fine : ValueFine s at r

pub record ValueMeasured (version : ℕ) (s : List ℕ) (at type_id name : ℕ) (r : Outcome Measured Refusal) : Type 0 where
  pub is : r ≡ measured (value_size name) (value_parser version type_id at (drop at s))
  pub fine : ValueFine s at r
