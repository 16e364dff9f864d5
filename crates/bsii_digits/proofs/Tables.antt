-- A rule over a table, by a test that is computed at each entry.
use Prim.Native.Nat.{ℕ, zero, suc, ◌<◌}
use mathlib.Core.Path.{◌≡◌}
use mathlib.Core.Logic.{⊎_elim}
use mathlib.Core.Bool.{Bool, true, false, cond}
use lib.Dec.{eqb}
use borrow.Author.Tests.{eqb-true}
use native.Mathlib.Omega.{arith}
use Rattle.bsii_format.proofs.Lists.{bool_cases, lt_or_le}

-- a test that passes at each number below k
unfoldable pub holds : (ℕ → Bool) → ℕ → Bool
holds f zero = true
holds f (suc k) = cond (f k) (holds f k) false

pub holds_at : (f : ℕ → Bool) (k : ℕ) → holds f k ≡ true → (d : ℕ) → d < k → f d ≡ true
unfolding holds
holds_at f zero t d h = absurd (omega arith)
holds_at f (suc k) t d h =
    ⊎_elim
    (λ e. ⊎_elim (λ l. holds_at f k (rw e at t) d l) (λ l. let z : d ≡ k = omega arith in rw z e) (lt_or_le d k))
    (λ e. absurd (let z : false ≡ true = rw e at t in let o : ◌≡◌ {A = ℕ} 0 1 = cc in omega arith))
    (bool_cases (f k))

-- two functions that agree at each of them
pub agree : (f g : ℕ → ℕ) (k : ℕ) → holds (λ d. eqb (f d) (g d)) k ≡ true → (d : ℕ) → d < k → f d ≡ g d
agree f g k t d h = eqb-true (f d) (g d) (holds_at (λ d. eqb (f d) (g d)) k t d h)
