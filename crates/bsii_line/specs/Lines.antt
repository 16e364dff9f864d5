-- A line of an element, by its own bytes.
use Rattle.std.specs.Prelude.{◌≡◌, ℕ, List, [], length}
use Rattle.std.proofs.Math.Option.{some}
use Rattle.bsii_format.specs.Reader.{WellFormed}
use Rattle.bsii_format.specs.Types.{Kind}
use Rattle.bsii_format.specs.Values.{Element, element_parser}
use Rattle.bsii_format.specs.Text.{element_text, field_line}
use Rattle.bsii_window.specs.Window.{Wrote}

-- `  LABEL: VALUE` and the end of the line, for an accepted element that has a text without a list
pub record LineWritten (label raw : List ℕ) (k : Kind) (old : List ℕ) (to r : ℕ) (new : List ℕ) : Type 0 where
  pub writes : (e : Element) → WellFormed (element_parser k) e raw → (x : List ℕ) → element_text [] e ≡ some x → Wrote old to (field_line label x) r new
  pub size : length new ≡ length old
