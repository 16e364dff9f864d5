-- What each function of the table answers and does, in terms of `lookup`: no contract that callers see says where a row stands.
use Rattle.std.specs.Prelude.{ℕ, ◌*◌, ◌<◌, ◌≡◌, cond, List, length, eqb, Some, None, Option as Answer}
use Rattle.std.proofs.Math.Option.{Option, none, some, map}
use Rattle.bsii_table.specs.Rows.{Row, offsets, id_at, lookup, Rows}
use Rattle.bsii_table.specs.declared.Row.{Row as FoundRow}

-- an answer of `find` as what was looked up
abbrev pub found_row : Answer FoundRow → Option Row
found_row (Some r) = some (offsets r.in_force r.last)
found_row None = none

-- inside this crate only: where an id's row starts, or that it has none
abbrev pub Locate : List ℕ → ℕ → ℕ → Answer ℕ → Type 0
Locate t rows id (Some at) = (i : ℕ) × (i < rows) × (at ≡ 3 * i) × (id_at t i ≡ id)
Locate t rows id None = (i : ℕ) → i < rows → id_at t i ≡ id → ⊥

abbrev pub with_in_force : ℕ → Row → Row
with_in_force offset r = offsets offset r.last

-- the id's row, if it has one, has this offset in force, and every other id has what it had
pub record Enters (t : List ℕ) (rows : ℕ) (id : ℕ) (offset : ℕ) (t' : List ℕ) : Type 0 where
  pub valid : Rows t' rows
  pub size : length t' ≡ length t
  pub looks : (x : ℕ) → lookup t' rows x ≡ cond (eqb x id) (map (with_in_force offset) (lookup t rows id)) (lookup t rows x)
