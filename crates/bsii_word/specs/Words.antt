-- What the walk over a word answers, by the characters that the format gives to it.
use Rattle.std.proofs.Math.Option as format
use Rattle.std.specs.Prelude.{Option, Some, None, List, ℕ, length}

abbrev pub spelled_as : format.Option (List ℕ) → Option ℕ
spelled_as format.none = None
spelled_as (format.some l) = Some (length l)
