-- What a look-up finds among rows of any form: `key i` is the id of the row i, `row i` its offsets.
use Prim.Native.Nat.{ℕ, zero, suc, ◌+◌, ◌≤◌, ◌<◌}
use native.Mathlib.Nat.{eq-or-lt_of_le}
use native.Mathlib.Decide.{ℕ_discrete}
use native.Mathlib.Omega.{arith}
use mathlib.Core.Path.{◌≡◌, refl, sym, ap, ◌∙◌}
use mathlib.Core.Logic.{◌⊎◌, inl, inr}
use mathlib.Core.Bool.{cond}
use mathlib.Core.Option.{none, some}
use lib.Dec.{eqb}
use borrow.Author.Count.{below_none, below_more}
use borrow.Author.Tests.{eq-eqb, ne_eqb}
use Rattle.bsii_table.specs.Rows.{Row, lookup_from}

-- no id has two rows
abbrev pub Once : (ℕ → ℕ) → ℕ → Type 0
Once key rows = (i j : ℕ) → i < rows → j < rows → key i ≡ key j → i ≡ j

module _ (key : ℕ → ℕ) (row : ℕ → Row) where
  first : (j left : ℕ) {id : ℕ} → id ≡ key j → lookup_from key row j (suc left) id ≡ some (row j)
  unfolding lookup_from
  first j left {id} e = rw (eq-eqb id (key j) e)

  skip : (j left : ℕ) {id : ℕ} → (id ≡ key j → ⊥) → lookup_from key row j (suc left) id ≡ lookup_from key row (suc j) left id
  unfolding lookup_from
  skip j left {id} n = rw (ne_eqb id (key j) n)

  -- the row i is the only one of its id, and so it is found
  finds_from : {id : ℕ} (i : ℕ) → key i ≡ id → (j left : ℕ) → j ≤ i → i < j + left → ((k : ℕ) → k < j + left → key k ≡ id → k ≡ i)
      → lookup_from key row j left id ≡ some (row i)
  finds_from i e j zero l h once = absurd (omega arith)
  finds_from {id} i e j (suc left) l h once =
      go (ℕ_discrete j i)
      (λ n. finds_from i e (suc j) left (omega arith) (omega arith) (λ k q. once k (omega arith)))
    where
      go : Dec (j ≡ i) → ((j ≡ i → ⊥) → lookup_from key row (suc j) left id ≡ some (row i)) → lookup_from key row j (suc left) id ≡ some (row i)
      go (yes y) more = first j left (sym e ∙ ap key (sym y)) ∙ ap (λ (k : ℕ). some (row k)) y
      go (no n) more = skip j left (λ q. n (once j (omega arith) (sym q))) ∙ more n

  misses_from : (id j left : ℕ) → ((i : ℕ) → j ≤ i → i < j + left → key i ≡ id → ⊥) → lookup_from key row j left id ≡ none
  unfolding lookup_from
  misses_from id j zero a = refl
  misses_from id j (suc left) a =
      skip j left (λ q. a j (omega arith) (omega arith) (sym q)) ∙ misses_from id (suc j) left (λ i l h. a i (omega arith) (omega arith))

  pub finds : {rows id : ℕ} → Once key rows → (i : ℕ) → i < rows → key i ≡ id → lookup_from key row 0 rows id ≡ some (row i)
  finds {rows} once i l e = finds_from i e 0 rows (omega arith) (omega arith) (λ k q y. once k i (omega arith) l (y ∙ sym e))

  pub misses : {rows : ℕ} (id : ℕ) → ((i : ℕ) → i < rows → key i ≡ id → ⊥) → lookup_from key row 0 rows id ≡ none
  misses {rows} id a = misses_from id 0 rows (λ i l h. a i (omega arith))

-- an id has a row, or none
has_row : (key : ℕ → ℕ) (rows x : ℕ) → ((i : ℕ) × (i < rows) × (key i ≡ x)) ⊎ ((i : ℕ) → i < rows → key i ≡ x → ⊥)
has_row key zero x = inr (below_none _)
has_row key (suc rows) x = go (ℕ_discrete (key rows) x) (has_row key rows x)
  where
    go : Dec (key rows ≡ x) → ((i : ℕ) × (i < rows) × (key i ≡ x)) ⊎ ((i : ℕ) → i < rows → key i ≡ x → ⊥)
        → ((i : ℕ) × (i < suc rows) × (key i ≡ x)) ⊎ ((i : ℕ) → i < suc rows → key i ≡ x → ⊥)
    go (yes y) more = inl (rows, omega arith, y)
    go (no n) (inl f) = inl (f.0, omega arith, f.2)
    go (no n) (inr m) = inr (λ i l. below_more _ rows m n i (omega arith))

-- ---- two forms of rows, or rows before and after a change

module _ {key key' : ℕ → ℕ} (row row' : ℕ → Row) {rows rows' : ℕ} (h : Once key rows) (h' : Once key' rows') where
  -- x has a row in both, with the same offsets, or in neither
  pub agrees : (x : ℕ) → ((i : ℕ) → i < rows → key i ≡ x → (j : ℕ) × (j < rows') × (key' j ≡ x) × (row' j ≡ row i))
      → ((j : ℕ) → j < rows' → key' j ≡ x → (i : ℕ) × (i < rows) × (key i ≡ x)) → lookup_from key' row' 0 rows' x ≡ lookup_from key row 0 rows x
  agrees x to from = go (has_row key rows x)
    where
      go : ((i : ℕ) × (i < rows) × (key i ≡ x)) ⊎ ((i : ℕ) → i < rows → key i ≡ x → ⊥) → lookup_from key' row' 0 rows' x ≡ lookup_from key row 0 rows x
      go (inl f) =
          let g = to f.0 f.1 f.2 in
          finds key' row' h' g.0 g.1 g.2 ∙ ap some g.3 ∙ sym (finds key row h f.0 f.1 f.2)
      go (inr n) = misses key' row' x (λ j l e. let f = from j l e in n f.0 f.1 f.2) ∙ sym (misses key row x n)

  -- the id has the row i now, and every other id what it had
  puts : {id : ℕ} (i : ℕ) → i < rows' → key' i ≡ id
      → ((x : ℕ) → (x ≡ id → ⊥) → lookup_from key' row' 0 rows' x ≡ lookup_from key row 0 rows x)
      → (x : ℕ) → lookup_from key' row' 0 rows' x ≡ cond (eqb x id) (some (row' i)) (lookup_from key row 0 rows x)
  puts {id} i l e others x = go (ℕ_discrete x id)
    where
      go : Dec (x ≡ id) → lookup_from key' row' 0 rows' x ≡ cond (eqb x id) (some (row' i)) (lookup_from key row 0 rows x)
      go (yes y) = rw (eq-eqb x id y) (finds key' row' h' i l (e ∙ sym y))
      go (no n) = rw (ne_eqb x id n) (others x n)

-- other offsets for the row i
pub replaced : {key key' : ℕ → ℕ} {row row' : ℕ → Row} {rows id : ℕ} → Once key rows → (i : ℕ) → i < rows → key i ≡ id
    → ((j : ℕ) → j < rows → key' j ≡ key j) → ((j : ℕ) → (j ≡ i → ⊥) → row' j ≡ row j)
    → (x : ℕ) → lookup_from key' row' 0 rows x ≡ cond (eqb x id) (some (row' i)) (lookup_from key row 0 rows x)
replaced {key} {key'} {row} {row'} {rows} h i l e keys others =
    puts row row' h once i l (keys i l ∙ e)
    (λ x n. agrees row row' h once x (λ j k q. (j, k, keys j k ∙ q, others j (λ z. n (sym q ∙ ap key z ∙ e)))) (λ j k q. (j, k, sym (keys j k) ∙ q)))
  where
    once : Once key' rows
    once a b k m q = h a b k m (sym (keys a k) ∙ q ∙ keys b m)

-- one row more, behind the others
pub appended : {key key' : ℕ → ℕ} {row row' : ℕ → Row} {rows id : ℕ} → Once key rows → Once key' (suc rows) → key' rows ≡ id
    → ((j : ℕ) → j < rows → key' j ≡ key j) → ((j : ℕ) → j < rows → row' j ≡ row j)
    → (x : ℕ) → lookup_from key' row' 0 (suc rows) x ≡ cond (eqb x id) (some (row' rows)) (lookup_from key row 0 rows x)
appended {key} {key'} {row} {row'} {rows} {id} h h' new keys others =
    puts row row' h h' rows (omega arith) new
    (λ x n. agrees row row' h h' x (λ j k q. (j, omega arith, keys j k ∙ q, others j k)) (λ j k. from x n j (eq-or-lt_of_le (let m : j ≤ rows = omega arith in m))))
  where
    from : (x : ℕ) → (x ≡ id → ⊥) → (j : ℕ) → (j ≡ rows) ⊎ (j < rows) → key' j ≡ x → (i : ℕ) × (i < rows) × (key i ≡ x)
    from x n j (inl e) q = absurd (n (sym q ∙ ap key' e ∙ new))
    from x n j (inr l) q = (j, l, sym (keys j l) ∙ q)
