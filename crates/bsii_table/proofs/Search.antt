-- Rows in the order of their ids, and the search among them.
use Prim.Native.Nat.{ℕ, zero, suc, ◌+◌, ◌≤◌, ◌<◌}
use native.Mathlib.Nat.{eq-or-lt_of_le}
use native.Mathlib.Decide.{dec_lt}
use native.Mathlib.Omega.{arith}
use mathlib.Core.Path.{◌≡◌, subst}
use mathlib.Core.Logic.{⊎_elim}
use mathlib.Core.List.{List}
use borrow.Author.Count.{below_none, below_more}
use Rattle.std.specs.Prelude.{None}
use Rattle.bsii_table.specs.Rows.{id_at, Rows}
use Rattle.bsii_table.specs.Table.{Locate}
use Rattle.bsii_table.proofs.Lookups.{Once}

pub rows_once : {t : List ℕ} {rows : ℕ} → Rows t rows → Once (id_at t) rows
rows_once h i j l m e = go (dec_lt i j) (dec_lt j i)
  where
    go : Dec (i < j) → Dec (j < i) → i ≡ j
    go (yes y) d = absurd (omega (arith, h.sorted i j y m))
    go (no n) (yes y) = absurd (omega (arith, h.sorted j i y l))
    go (no n) (no o) = omega arith

-- there are no more rows than ids
pub id_from_law : {t : List ℕ} {rows : ℕ} → Rows t rows → (i : ℕ) → i < rows → i ≤ id_at t i
id_from_law h zero l = omega arith
id_from_law h (suc i) l = omega (arith, id_from_law h i (omega arith), h.sorted i (suc i) (omega arith) l)

-- where an id would stand among those of the rows: the rows in front of `low` have lesser ids, those from `high` on greater ones
pub record Bracket (t : List ℕ) (rows : ℕ) (id : ℕ) (low : ℕ) (high : ℕ) : Type 0 where
  pub ordered : low ≤ high
  pub within : high ≤ rows
  pub less : (j : ℕ) → j < low → id_at t j < id
  pub greater : (j : ℕ) → high ≤ j → j < rows → id < id_at t j

pub bracket_all : (t : List ℕ) (rows id : ℕ) → Bracket t rows id 0 rows
bracket_all t rows id = record { ordered = omega arith; within = omega arith; less = below_none _; greater = λ j l m. absurd (omega arith) }

module _ {t : List ℕ} {rows id low high : ℕ} (h : Rows t rows) (b : Bracket t rows id low high) (m : ℕ) (l : low ≤ m) (k : m < high) where
  pub bracket_up : id_at t m < id → Bracket t rows id (m + 1) high
  bracket_up c = record {
    ordered = omega arith;
    within = b.within;
    less = below_more _ m (λ j q. omega (arith, h.sorted j m q (omega arith))) c;
    greater = b.greater;
  }

  pub bracket_down : id < id_at t m → Bracket t rows id low m
  bracket_down c = record {
    ordered = l;
    within = omega arith;
    less = b.less;
    greater = λ j q r.
        ⊎_elim (λ e. subst (λ (n : ℕ). id < id_at t n) e c) (λ q. omega (arith, h.sorted m j q r)) (eq-or-lt_of_le q);
  }

-- the ends have met: no row has the id
pub bracket_none : {t : List ℕ} {rows id low high : ℕ} → Bracket t rows id low high → high ≤ low → Locate t rows id None
bracket_none {low = low} b l j m e = go (dec_lt j low)
  where
    go : Dec (j < low) → ⊥
    go (yes y) = omega (arith, b.less j y)
    go (no n) = omega (arith, b.greater j (omega arith) m)
