-- The laws of what the functions write, by the position that `locate` answered.
use Prim.Native.Nat.{ℕ, ◌+◌, ◌*◌, ◌<◌}
use native.Mathlib.Decide.{ℕ_discrete}
use native.Mathlib.Omega.{arith}
use mathlib.Core.Path.{◌≡◌, refl, sym, ap, ap₂, ◌∙◌, subst}
use mathlib.Core.Bool.{cond}
use mathlib.Core.Option.{Option, none, some, map}
use mathlib.Core.List.{List}
use lib.ListN.{length, get_or, set, length-set}
use lib.Seq.{get_or-set_same, get_or-set_other}
use lib.Dec.{eqb}
use borrow.Author.Tests.{eq-eqb, ne_eqb}
use Rattle.std.specs.Prelude.{Some, None, Option as Answer}
use Rattle.bsii_table.specs.Rows.{Row, offsets, id_at, row_at, lookup, Rows}
use Rattle.bsii_table.specs.Table.{Locate, with_in_force, Enters}
use Rattle.bsii_table.proofs.Lookups.{finds, misses, replaced}
use Rattle.bsii_table.proofs.Search.{rows_once}

module _ {t : List ℕ} {rows : ℕ} (h : Rows t rows) where
  row_finds : {id : ℕ} (i : ℕ) → i < rows → id_at t i ≡ id → lookup t rows id ≡ some (row_at t i)
  row_finds i l e = finds (id_at t) (row_at t) (rows_once h) i l e

  -- the offset in force of the row i
  enters : (o : ℕ) {id : ℕ} (i : ℕ) → i < rows → id_at t i ≡ id → Enters t rows id o (set t (3 * i + 1) o)
  enters o {id} i l e =
      record {
        valid = record { room = omega (arith, size, h.room); sorted = λ a b k m. omega (arith, ids a, ids b, h.sorted a b k m) };
        size = size;
        looks = λ x. replaced (rows_once h) i l e (λ j k. ids j) others x ∙ ap (λ (r : Option Row). cond (eqb x id) r (lookup t rows x)) here;
      }
    where
      t' : List ℕ
      t' = set t (3 * i + 1) o

      size : length t' ≡ length t
      size = length-set t (3 * i + 1) o

      same : (j : ℕ) → (j ≡ 3 * i + 1 → ⊥) → get_or t' j 0 ≡ get_or t j 0
      same j n = get_or-set_other t (3 * i + 1) j o 0 n

      ids : (j : ℕ) → id_at t' j ≡ id_at t j
      ids j = same (3 * j) (omega arith)

      others : (j : ℕ) → (j ≡ i → ⊥) → row_at t' j ≡ row_at t j
      others j n = ap₂ offsets (same (3 * j + 1) (λ q. n (omega arith))) (same (3 * j + 2) (omega arith))

      one : get_or t' (3 * i + 1) 0 ≡ o
      one = get_or-set_same t (3 * i + 1) o 0 (omega (arith, h.room))

      here : some (row_at t' i) ≡ map (with_in_force o) (lookup t rows id)
      here = ap some (ap₂ offsets one (same (3 * i + 2) (omega arith))) ∙ ap (map (with_in_force o)) (sym (row_finds i l e))

  -- an id without a row has none afterwards
  enters_none : (o : ℕ) {id : ℕ} → ((i : ℕ) → i < rows → id_at t i ≡ id → ⊥) → Enters t rows id o t
  enters_none o {id} new = record { valid = h; size = refl; looks = λ x. looks x (ℕ_discrete x id) }
    where
      none_there : lookup t rows id ≡ none
      none_there = misses (id_at t) (row_at t) id new

      looks : (x : ℕ) → Dec (x ≡ id) → lookup t rows x ≡ cond (eqb x id) (map (with_in_force o) (lookup t rows id)) (lookup t rows x)
      looks x (yes y) = rw (eq-eqb x id y, none_there) (ap (lookup t rows) y ∙ none_there)
      looks x (no n) = rw (ne_eqb x id n)

module _ {t : List ℕ} {rows : ℕ} (h : Rows t rows) (id : ℕ) {s : Answer ℕ} where
  module _ {at : ℕ} (e : s ≡ Some at) (l : Locate t rows id s) where
    row : Locate t rows id (Some at)
    row = subst (Locate t rows id) e l

    pub row_found : some (offsets (get_or t (at + 1) 0) (get_or t (at + 2) 0)) ≡ lookup t rows id
    row_found = rw row.2 (sym (row_finds h row.0 row.1 row.3))

    pub row_entered : (o : ℕ) → Enters t rows id o (set t (at + 1) o)
    row_entered o = rw row.2 (enters h o row.0 row.1 row.3)

  module _ (e : s ≡ None) (l : Locate t rows id s) where
    missing : Locate t rows id None
    missing = subst (Locate t rows id) e l

    pub missing_found : lookup t rows id ≡ none
    missing_found = misses (id_at t) (row_at t) id missing

    pub missing_entered : (o : ℕ) → Enters t rows id o t
    missing_entered o = enters_none h o missing
