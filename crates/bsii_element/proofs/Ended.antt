-- What an answer that keeps only an end says of the result.
use mathlib.Core.Path.{◌≡◌, ap}
use Prim.Native.Nat.{ℕ}
use mathlib.Core.List.{List}
use Rattle.bsii_format.specs.Reader.{Result, ok, fault}
use Rattle.bsii_string.specs.Answers.{end_of}
use Rattle.bsii_string.proofs.Ends.{next≢fault}
use Rattle.std.specs.Prelude.{Ok}

-- a result that ends there was accepted
pub next_ok : {A : Type 0} (q : Result A) {n : ℕ} → Ok n ≡ end_of q → (a : A) × (r : List ℕ) × (q ≡ ok a n r)
unfolding end_of
next_ok (ok a i r) {n} e = let j : i ≡ n = cc in (a, r, ap (λ (i : ℕ). ok a i r) j)
next_ok (fault f) e = next≢fault e
