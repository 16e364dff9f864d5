-- A float's size as a whole number.
use Rattle.std.specs.Prelude.{ℕ, ◌*◌, ◌/◌, min, Float}
use Rattle.std.specs.Float.{nan, inf, fin}
use Rattle.std.specs.Float.Ieee.{up, down}

-- cut towards zero and held to 2^31, the size of the smallest i32; 0 for NaN
unfoldable pub cut_size : Float → ℕ
cut_size nan = 0
cut_size (inf s) = 0x8000_0000
cut_size (fin s m e) = min (m * up e / down e) 0x8000_0000
