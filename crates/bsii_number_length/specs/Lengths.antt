-- How long the text of an accepted element that is numbers is. That of an enum is found elsewhere: nothing is said of it here.
use Rattle.std.specs.Prelude.{ℕ, ◌<◌, ◌≡◌, List, [], length}
use Rattle.std.proofs.Math.Option.{some}
use Rattle.bsii_format.specs.Reader.{ok}
use Rattle.bsii_format.specs.Types.{Numeric, numbers}
use Rattle.bsii_format.specs.Values.{Element, element_parser}
use Rattle.bsii_format.specs.Text.{element_text}

pub record NumericLength (k : Numeric) (raw : List ℕ) (r : ℕ) : Type 0 where
  pub is : (e : Element) (n : ℕ) (t : List ℕ) → element_parser (numbers k) 0 raw ≡ ok e n t → (x : List ℕ) → element_text [] e ≡ some x → r ≡ length x
  -- whatever the bytes: so that sums do not wrap
  pub small : r < 256
