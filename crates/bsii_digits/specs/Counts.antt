-- The bounds between numbers of different lengths.
use Rattle.std.specs.Prelude.{ℕ, zero, suc, ◌*◌}

-- what a number of more than t decimal digits reaches: a power of ten, and 0 for none, since each number has a digit
unfoldable pub tens : ℕ → ℕ
tens zero = 0
tens (suc zero) = 10
tens (suc (suc t)) = 10 * tens (suc t)
