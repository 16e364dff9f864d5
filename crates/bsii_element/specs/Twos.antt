-- The bits of a signed number.
use Rattle.std.specs.Prelude.{ℕ, suc, ◌-◌, ℤ, pos, negsuc}

-- two's complement: m is 2^32 or 2^64
abbrev pub twos : ℕ → ℤ → ℕ
twos m (pos n) = n
twos m (negsuc n) = m - suc n
