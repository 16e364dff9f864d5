-- The rows of the table: three words for each prototype id, (id, offset of the definition in force, offset of the last definition).
-- A zero id is a valid id and the words may come in with anything in them, so the number of rows is carried beside the table.
use Rattle.std.specs.Prelude.{ℕ, zero, suc, ◌+◌, ◌*◌, ◌≤◌, ◌<◌, cond, List, length, get_or, eqb}
use Rattle.std.proofs.Math.Option.{Option, none, some}

-- the two offsets of an id
pub record Row : Type 0 where
  pub in_force : ℕ
  pub last : ℕ

abbrev pub offsets : ℕ → ℕ → Row
offsets a b = record { in_force = a; last = b }

abbrev pub id_at : List ℕ → ℕ → ℕ
id_at t i = get_or t (3 * i) 0

abbrev pub row_at : List ℕ → ℕ → Row
row_at t i = offsets (get_or t (3 * i + 1) 0) (get_or t (3 * i + 2) 0)

-- the first of n rows, from the row i on, whose key is the id
unfoldable pub lookup_from : (ℕ → ℕ) → (ℕ → Row) → ℕ → ℕ → ℕ → Option Row
lookup_from key row i zero id = none
lookup_from key row i (suc left) id = cond (eqb id (key i)) (some (row i)) (lookup_from key row (suc i) left id)

-- the first row among `rows` whose id word is the id
abbrev pub lookup : List ℕ → ℕ → ℕ → Option Row
lookup t rows id = lookup_from (id_at t) (row_at t) 0 rows id

-- What a number of rows means: the words are there, and the ids rise from row to row, so no id has two rows. Callers carry it and never
-- look into it.
pub record Rows (t : List ℕ) (rows : ℕ) : Type 0 where
  pub room : 3 * rows ≤ length t
  pub sorted : (i j : ℕ) → i < j → j < rows → id_at t i < id_at t j
