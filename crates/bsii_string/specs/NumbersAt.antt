-- Numbers at a position.
use Rattle.std.specs.Prelude.{ℕ, zero, suc, ◌+◌, List, [], ◌∷◌, drop}
use Rattle.bsii_format.specs.Reader.{Result, ok, fault}
use Rattle.bsii_format.specs.Numbers.{number}

-- a number that is read, and 0 for a fault
unfoldable pub or_zero : Result ℕ → ℕ
or_zero (ok v at r) = v
or_zero (fault f) = 0

-- the number of w bytes at a position
unfoldable pub number_at : ℕ → List ℕ → ℕ → ℕ
number_at w s at = or_zero (number w at (drop at s))

-- the n numbers of w bytes from a position on
unfoldable pub numbers_at : ℕ → ℕ → List ℕ → ℕ → List ℕ
numbers_at zero w s at = []
numbers_at (suc n) w s at = number_at w s at ∷ numbers_at n w s (at + w)
