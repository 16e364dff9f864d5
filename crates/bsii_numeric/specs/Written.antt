-- The text of an accepted element that is numbers. That of an enum is found elsewhere: nothing is said of it here.
use Rattle.std.specs.Prelude.{ℕ, ◌+◌, ◌≤◌, ◌≡◌, List, [], length}
use Rattle.std.proofs.Math.Option.{some}
use Rattle.bsii_format.specs.Reader.{ok}
use Rattle.bsii_format.specs.Types.{Numeric, numbers}
use Rattle.bsii_format.specs.Values.{Element, element_parser}
use Rattle.bsii_format.specs.Text.{element_text}
use Rattle.bsii_window.specs.Window.{Wrote}
use Rattle.bsii_window.specs.Stored.{Stored}

pub record NumericStored (k : Numeric) (raw old : List ℕ) (to r : ℕ) (new : List ℕ) : Type 0 where
  pub stores : (e : Element) (n : ℕ) (t : List ℕ) → element_parser (numbers k) 0 raw ≡ ok e n t → (x : List ℕ) → element_text [] e ≡ some x → Stored old to x r new
  -- whatever the bytes: so that more can be stored behind it
  pub least : to ≤ r
  pub most : r ≤ to + 201
  pub size : length new ≡ length old

pub record NumericWritten (k : Numeric) (raw old : List ℕ) (at r : ℕ) (new : List ℕ) : Type 0 where
  pub writes : (e : Element) (n : ℕ) (t : List ℕ) → element_parser (numbers k) 0 raw ≡ ok e n t → (x : List ℕ) → element_text [] e ≡ some x → Wrote old at x r new
  pub size : length new ≡ length old
