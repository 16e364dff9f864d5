-- Rows: a row of numbers and the one behind it, and a row whose length is known, item by item.
use Rattle.std.proofs.Common.{◌≡◌, ℕ, zero, suc, ◌+◌, ◌*◌, List, [], ◌∷◌, ◌++◌, length, get_or, map, refl, ap, ◌∙◌, add-one, arith}
use Rattle.std.specs.List.{range_with_len}
use Rattle.std.proofs.lemmas.List.FromFn.{fill_by_all}
use Rattle.bsii_string.specs.NumbersAt.{number_at, numbers_at}

one_more : (n w : ℕ) (s : List ℕ) (at to : ℕ) → to ≡ at + n * w → numbers_at (suc n) w s at ≡ numbers_at n w s at ++ number_at w s to ∷ []
unfolding numbers_at
one_more zero w s at to e = ap (λ (k : ℕ). number_at w s k ∷ []) (omega (arith, e))
one_more (suc n) w s at to e = ap (λ (l : List ℕ). number_at w s at ∷ l) (one_more n w s (at + w) to (omega (arith, e)))

pub numbers_more : (n w : ℕ) (s : List ℕ) (at to : ℕ) → to ≡ at + n * w → numbers_at (n + 1) w s at ≡ numbers_at n w s at ++ number_at w s to ∷ []
numbers_more n w s at to e = ap (λ (k : ℕ). numbers_at k w s at) (add-one n) ∙ one_more n w s at to e

pub spelled : {A : Type 0} (d : A) (n : ℕ) (l : List A) → length l ≡ n → l ≡ map (λ k. get_or l k d) (range_with_len 0 n)
spelled d n l e = fill_by_all (λ k. get_or l k d) l n d e (λ k h. refl)
