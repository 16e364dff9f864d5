-- Where no id is defined twice, a definition in force is the last one of its id; and there are as many ids as definitions.
use mathlib.Core.Path.{◌≡◌, refl, sym, ap, ◌∙◌, subst}
use Prim.Native.Nat.{ℕ, suc, ◌≤◌}
use native.Mathlib.Omega.{arith}
use mathlib.Core.Bool.{Bool, true, false, cond}
use mathlib.Core.Option.{Option, none, some}
use mathlib.Core.List.{List, [], ◌∷◌}
use lib.ListN.{length}
use lib.Dec.{T, eqb, eqb→eq}
use Rattle.bsii_format.specs.Strings.{is_some}
use Rattle.bsii_format.specs.Prototypes.{Prototype}
use Rattle.bsii_format.specs.Blocks.{find_by, get_prototype}
use Rattle.bsii_format.specs.File.{Record, prototype, block, define, define_all, distinct_ids}
use Rattle.bsii_derived.specs.IndexCalls.{once}
use Rattle.bsii_derived.proofs.Bytes.{none≢some, some_is}

false≢true : {P : Type 0} → ◌≡◌ {A = Bool} false true → P
false≢true e = let z : ◌≡◌ {A = ℕ} 0 1 = cc in let f : ⊥ = omega arith in absurd f

pub found_id : (n : ℕ) (env : List Prototype) {q : Prototype} → get_prototype n env ≡ some q → n ≡ q.id
unfolding find_by
found_id n [] e = none≢some e
found_id n (p ∷ env) {q} e = go (eqb n p.id) refl e (λ z. found_id n env z)
  where
    go : (b : Bool) → eqb n p.id ≡ b → cond b (some p) (get_prototype n env) ≡ some q → (get_prototype n env ≡ some q → n ≡ q.id) → n ≡ q.id
    go true h z f = eqb→eq n p.id (subst T (sym h) tt) ∙ ap (λ (x : Prototype). x.id) (some_is z)
    go false h z f = f z

-- ---- the first definition of an id is its last

-- one more definition, of an id that has none
pub once_new : (p : Prototype) (env : List Prototype) → once (p ∷ env) ≡ true → (get_prototype p.id env ≡ none) × (once env ≡ true)
unfolding once is_some
once_new p env e = go (get_prototype p.id env) refl e
  where
    go : (o : Option Prototype) → get_prototype p.id env ≡ o → cond (is_some o) false (once env) ≡ true → (get_prototype p.id env ≡ none) × (once env ≡ true)
    go none h z = (h, z)
    go (some q) h z = false≢true z

once_before : (l : List Record) (env : List Prototype) → once (define_all l env) ≡ true → once env ≡ true
unfolding define_all define
once_before [] env e = e
once_before (prototype p ∷ l) env e = (once_new p env (once_before l (p ∷ env) e)).1
once_before (block b ∷ l) env e = once_before l env e

pub known_once : (n : ℕ) (l : List Record) (env : List Prototype) {q : Prototype} → once (define_all l env) ≡ true → get_prototype n env ≡ some q
    → get_prototype n (define_all l env) ≡ some q
unfolding define_all define find_by
known_once n [] env o e = e
known_once n (block b ∷ l) env o e = known_once n l env o e
known_once n (prototype p ∷ l) env {q} o e = known_once n l (p ∷ env) o (go (eqb n p.id) refl)
  where
    new : get_prototype p.id env ≡ none
    new = (once_new p env (once_before l (p ∷ env) o)).0

    go : (b : Bool) → eqb n p.id ≡ b → cond b (some p) (get_prototype n env) ≡ some q
    go true h = none≢some (sym new ∙ ap (λ m. get_prototype m env) (sym (eqb→eq n p.id (subst T (sym h) tt))) ∙ e)
    go false h = e

-- ---- counted

distinct_few : (env : List Prototype) → distinct_ids env ≤ length env
unfolding distinct_ids
distinct_few [] = omega arith
distinct_few (p ∷ env) = go (is_some (get_prototype p.id env)) (distinct_few env)
  where
    go : (b : Bool) → distinct_ids env ≤ length env → cond b (distinct_ids env) (suc (distinct_ids env)) ≤ suc (length env)
    go true h = omega (arith, h)
    go false h = omega (arith, h)

pub once_counts : (env : List Prototype) → once env ≡ true → distinct_ids env ≡ length env
unfolding once distinct_ids
once_counts [] e = refl
once_counts (p ∷ env) e = go (is_some (get_prototype p.id env)) e (λ z. once_counts env z)
  where
    go : (b : Bool) → cond b false (once env) ≡ true → (once env ≡ true → distinct_ids env ≡ length env) → cond b (distinct_ids env) (suc (distinct_ids env)) ≡ suc (length env)
    go true z h = false≢true z
    go false z h = ap suc (h z)

pub counts_once : (env : List Prototype) → distinct_ids env ≡ length env → once env ≡ true
unfolding once distinct_ids
counts_once [] e = refl
counts_once (p ∷ env) e = go (is_some (get_prototype p.id env)) e (λ z. counts_once env z)
  where
    go : (b : Bool) → cond b (distinct_ids env) (suc (distinct_ids env)) ≡ suc (length env) → (distinct_ids env ≡ length env → once env ≡ true) → cond b false (once env) ≡ true
    go true z h = absurd (omega (arith, distinct_few env, z))
    go false z h = h (omega (arith, z))
