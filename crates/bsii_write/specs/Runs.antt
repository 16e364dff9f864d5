-- A quoted string in runs: bytes that are written raw, and the escaped byte behind them.
use Rattle.std.specs.Prelude.{ℕ, suc, ◌+◌, ◌-◌, cond, List, [], ◌∷◌, ◌++◌, take, drop}
use Rattle.bsii_format.specs.Ascii.{ascii}
use Rattle.bsii_format.specs.Utf8.{◌to◌, within}
use Rattle.bsii_format.specs.Digits.{hex_padded}

unfoldable pub escape : ℕ → List ℕ
escape b = ascii "\\x" ++ hex_padded 2 b

-- how many bytes at the front are raw
unfoldable pub raw : List ℕ → ℕ
raw [] = 0
raw (x ∷ s) = cond (within (32 to 127) x) (suc (raw s)) 0

-- where the raw bytes from a place on end
unfoldable pub run_end : List ℕ → ℕ → ℕ
run_end bytes start = start + raw (drop start bytes)

unfoldable pub first_escaped : List ℕ → List ℕ
first_escaped [] = []
first_escaped (x ∷ s) = escape x

-- the bytes from start to end, and the escaped byte at the end, if there is one
unfoldable pub run : List ℕ → ℕ → ℕ → List ℕ
run bytes start end = take (end - start) (drop start bytes) ++ first_escaped (drop end bytes)
