-- An arm of a `match` on an enum that stands for several variants: what holds of each of their numbers holds of the value's.
use mathlib.Core.Logic.{⊎_elim}
use mathlib.Core.Path.{sym, subst}
use Prim.Native.Nat.{ℕ}
use mathlib.Core.Bool.{Bool, true, ◌&&◌}
use mathlib.Core.List.{List, [], ◌∷◌}
use lib.Dec.{T}
use types.Run.{OneOf}
use Rattle.bsii_format.proofs.Readers.{and_left, and_right}

unfoldable pub every : (ℕ → Bool) → List ℕ → Bool
every p [] = true
every p (k ∷ l) = p k && every p l

pub keyed : (p : ℕ → Bool) (l : List ℕ) (x : ℕ) → T (every p l) → OneOf l x → T (p x)
unfolding every
keyed p [] x t o = absurd o
keyed p (k ∷ []) x t o = subst (λ (y : ℕ). T (p y)) (sym o) (and_left (p k) true t)
keyed p (k ∷ m ∷ l) x t o =
    ⊎_elim (λ e. subst (λ (y : ℕ). T (p y)) (sym e) (and_left (p k) (every p (m ∷ l)) t)) (λ e. keyed p (m ∷ l) x (and_right (p k) (every p (m ∷ l)) t) e) o
