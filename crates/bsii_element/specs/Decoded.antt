-- What the call makes of one element.
use Rattle.std.specs.Prelude.{◌≡◌, ℕ, ◌-◌, List, Ok}
use Rattle.std.proofs.Math.Option.{some}
use Rattle.bsii_format.specs.Replies.{Reply, gives, refuses}
use Rattle.bsii_format.specs.Reader.{Result, ok, fault}
use Rattle.bsii_format.specs.Types.{Kind, many}
use Rattle.bsii_format.specs.Values.{Element, shape_parser}
use Rattle.bsii_format.specs.Calls.{Datum, datum_of, of_value}
use Rattle.bsii_string.specs.Answers.{end_of}

-- the element that was read at a position, or its fault
unfoldable pub decoded : ℕ → Result Element → Reply Datum
decoded at (ok e next r) = gives (datum_of at (next - at) e)
decoded at (fault f) = refuses f

-- r is the call's answer about the element i, if the array was accepted
abbrev pub answers_at : Kind → List ℕ → ℕ → Reply Datum → Type 0
answers_at k s i r = (n : ℕ) → Ok n ≡ end_of (shape_parser (some (many k)) 0 s) → r ≡ of_value i (shape_parser (some (many k)) 0 s)
