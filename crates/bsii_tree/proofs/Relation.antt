-- The laws of the tree against the definitions so far.
use Prim.Native.Nat.{ℕ, zero, suc, ◌/◌}
use native.Mathlib.Omega.{arith}
use mathlib.Core.Path.{◌≡◌, refl, sym, ap, ◌∙◌, subst}
use mathlib.Core.Bool.{Bool, true, false, cond}
use mathlib.Core.Option.{Option, none, some}
use mathlib.Core.List.{List, [], ◌∷◌}
use lib.ListN.{length}
use lib.Dec.{eqb}
use borrow.Author.Tests.{le-leb, lt-leb}
use Rattle.std.specs.Prelude.{Some, None, Option as Answer}
use Rattle.bsii_format.specs.Strings.{is_some}
use Rattle.bsii_format.specs.Prototypes.{Prototype}
use Rattle.bsii_format.specs.Blocks.{find_by, get_prototype}
use Rattle.bsii_format.specs.File.{prototype, distinct_ids, has_room}
use Rattle.bsii_table.specs.Rows.{Row, offsets, lookup_from}
use Rattle.bsii_table.specs.Relation.{Matches}
use Rattle.bsii_tree.specs.Table.{key_of, row_of, Linked, lookup_tree, rows_with, Puts, NoRoom, Defines, put, full}
use Rattle.bsii_tree.specs.Relation.{Grows}
use Rattle.bsii_tree.proofs.Trees.{bare_tree}

-- ---- what `define` answered

pub is_put : {f t : List ℕ} {rows id o r : ℕ} {d : Answer ℕ} {t' : List ℕ} → d ≡ Some r → Defines f t rows id o d t' → Puts f t rows id o t' r
is_put {f} {t} {rows} {id} {o} {r} {t' = t'} q (put {rows' = n} x) = let z : n ≡ r = cc in subst (λ (r : ℕ). Puts f t rows id o t' r) z x
is_put q (full x) = cc

pub is_full : {f t : List ℕ} {rows id o : ℕ} {d : Answer ℕ} {t' : List ℕ} → d ≡ None → Defines f t rows id o d t' → NoRoom f t rows id t'
is_full q (put x) = cc
is_full q (full x) = x

-- ---- what `find` answered

-- the last definition so far is in force
pub offsets_same : (f t : List ℕ) (rows id : ℕ) {a b : ℕ} → lookup_tree f t rows id ≡ some (offsets a b) → a ≡ b
unfolding lookup_from
offsets_same f t rows id {a} {b} e = go 0 rows e
  where
    here : (k : Bool) (i : ℕ) (o : Option Row) → (o ≡ some (offsets a b) → a ≡ b) → cond k (some (row_of t i)) o ≡ some (offsets a b) → a ≡ b
    here true i o h e = let z : row_of t i ≡ offsets a b = cc in sym (ap (λ (r : Row). r.in_force) z) ∙ ap (λ (r : Row). r.last) z
    here false i o h e = h e

    go : (i n : ℕ) → lookup_from (key_of f t) (row_of t) i n id ≡ some (offsets a b) → a ≡ b
    go i zero e = cc
    go i (suc n) e = here (eqb id (key_of f t i)) i (lookup_from (key_of f t) (row_of t) (suc i) n id) (go (suc i) n) e

module _ (At : ℕ → Prototype → Type 0) where
  -- before the first definition: whatever the table came in with
  pub grows_none : (f t : List ℕ) → Grows At f t 0 []
  unfolding find_by lookup_from distinct_ids
  grows_none f t = record { valid = bare; count = refl; each = λ id. tt }
    where
      bare : Linked f t 0
      bare = record { room = omega arith; tree = bare_tree _ _; inside = λ r l. absurd (omega arith) }

  matches_put : (b : Bool) (o : Option Prototype) (l : Option Row) (p : Prototype) (r : Row) → Matches At o l → At r.in_force p → At r.last p
      → Matches At (cond b (some p) o) (cond b (some r) l)
  matches_put true o l p r m x y = (x, y)
  matches_put false o l p r m x y = m

  matches_count : (o : Option Prototype) (l : Option Row) (rows n : ℕ) → Matches At o l → rows ≡ n → rows_with rows l ≡ cond (is_some o) n (suc n)
  unfolding is_some
  matches_count none none rows n m e = ap suc e
  matches_count none (some r) rows n m e = absurd m
  matches_count (some p) none rows n m e = absurd m
  matches_count (some p) (some r) rows n m e = e

  module _ {f t : List ℕ} {rows : ℕ} {env : List Prototype} (h : Grows At f t rows env) (p : Prototype) where
    -- the number of rows with a row for p's id
    ids_with : {id : ℕ} → p.id ≡ id → rows_with rows (lookup_tree f t rows id) ≡ distinct_ids (p ∷ env)
    unfolding distinct_ids
    ids_with {id} e =
        matches_count (get_prototype p.id env) (lookup_tree f t rows id) rows (distinct_ids env)
        (subst (λ (n : ℕ). Matches At (get_prototype p.id env) (lookup_tree f t rows n)) e (h.each p.id)) h.count

    -- `define` gave the id a row: a new id or one defined again
    pub define_grows : {id o r : ℕ} {d : Answer ℕ} {t' : List ℕ} → p.id ≡ id → At o p → d ≡ Some r → Defines f t rows id o d t' → Grows At f t' r (p ∷ env)
    unfolding find_by
    define_grows {id} {o} {r} {d} {t'} e a q w =
        let x = is_put q (subst (λ (n : ℕ). Defines f t rows n o d t') (sym e) w) in
        record {
          valid = x.valid;
          count = x.count ∙ ids_with refl;
          each = λ n.
              rw (x.looks n)
              (matches_put (eqb n p.id) (get_prototype n env) (lookup_tree f t rows n) p (offsets o o) (h.each n) a a);
        }

    -- None is answered exactly where the definitions say that there is no room
    pub define_full : {id o : ℕ} {d : Answer ℕ} {t' : List ℕ} → p.id ≡ id → d ≡ None → Defines f t rows id o d t'
        → has_room (length t / 3) env (prototype p) ≡ false
    unfolding has_room
    define_full {id} {o} {d} {t'} e q w =
        let x = is_full q w in
        let n : suc rows ≡ distinct_ids (p ∷ env) = sym (ap (rows_with rows) x.new) ∙ ids_with e in
        lt-leb (distinct_ids (p ∷ env)) (length t / 3) (omega (arith, x.short))

    pub define_room : {id o r : ℕ} {d : Answer ℕ} {t' : List ℕ} → p.id ≡ id → d ≡ Some r → Defines f t rows id o d t'
        → has_room (length t / 3) env (prototype p) ≡ true
    unfolding has_room
    define_room {id} {o} {r} {d} {t'} e q w =
        let x = is_put q w in
        let n : r ≡ distinct_ids (p ∷ env) = x.count ∙ ids_with e in
        le-leb (distinct_ids (p ∷ env)) (length t / 3) (omega (arith, x.valid.room, x.size))
