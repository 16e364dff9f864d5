-- An item that runs out: the code takes the count from how many bytes it found left.
use mathlib.Core.Path.{◌≡◌, sym, ap, ◌∙◌}
use Prim.Native.Nat.{ℕ, ◌-◌}
use Rattle.bsii_format.specs.Reader.{Result, short_at}

pub short_of : {A : Type 0} {q : Result A} {at left there : ℕ} (n : ℕ) → left ≡ there → q ≡ short_at at (n - there) → short_at at (n - left) ≡ q
short_of {at = at} n e h = ap (λ (k : ℕ). short_at at (n - k)) e ∙ sym h
