-- A rule at each number of an interval, proved by one computation over all of them.
use mathlib.Core.Path.{◌≡◌}
use Prim.Native.Nat.{ℕ, zero, suc, ◌+◌, ◌-◌, ◌≤◌, ◌<◌}
use native.Mathlib.Nat.{add-zero, le_of_suc-le-suc}
use native.Mathlib.Omega.{arith}
use mathlib.Core.List.{List, [], ◌∷◌}

-- what f gives at n numbers from i on
unfoldable pub tabulate : {A : Type 0} → (ℕ → A) → ℕ → ℕ → List A
tabulate f i zero = []
tabulate f i (suc n) = f i ∷ tabulate f (suc i) n

from : {A : Type 0} (f g : ℕ → A) (i n : ℕ) → tabulate f i n ≡ tabulate g i n → (k : ℕ) → k < n → f (i + k) ≡ g (i + k)
unfolding tabulate
from f g i zero e k h = absurd (omega arith)
from f g i (suc n) e zero h = let z : f i ≡ g i = cc in rw add-zero z
from f g i (suc n) e (suc k) h =
    let t : tabulate f (suc i) n ≡ tabulate g (suc i) n = cc in
    let m : suc i + k ≡ i + suc k = omega arith in
    rw m at (from f g (suc i) n t k (le_of_suc-le-suc h))

pub between : {A : Type 0} (i n : ℕ) (f g : ℕ → A) → tabulate f i n ≡ tabulate g i n → (k : ℕ) → i ≤ k → k < i + n → f k ≡ g k
between i n f g e k l h =
    let m : i + (k - i) ≡ k = omega arith in
    rw m at (from f g i n e (k - i) (omega arith))
