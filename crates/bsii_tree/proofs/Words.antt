-- The laws of the words: what the functions write, as rows of a tree.
use Prim.Native.Nat.{ℕ, zero, suc, ◌+◌, ◌*◌, ◌≤◌, ◌<◌}
use native.Mathlib.Nat.{eq-or-lt_of_le}
use native.Mathlib.Decide.{ℕ_discrete}
use native.Mathlib.Numerals.{add-one}
use native.Mathlib.Omega.{arith}
use mathlib.Core.Path.{◌≡◌, sym, ap, ap₂, ◌∙◌, subst}
use mathlib.Core.Logic.{⊎_elim}
use mathlib.Core.Bool.{cond}
use mathlib.Core.Option.{none, some, map}
use mathlib.Core.List.{List}
use lib.ListN.{length, get_or, set, length-set}
use lib.Seq.{get_or-set_same, get_or-set_other}
use lib.Dec.{eqb}
use Rattle.bsii_table.specs.Rows.{offsets}
use Rattle.bsii_table.proofs.Lookups.{Once, finds, misses, replaced, appended}
use Rattle.bsii_tree.specs.Tree.{search, Tree, Leaf, Place}
use Rattle.bsii_tree.specs.Table.{id_of, offset_of, key_of, link_of, row_of, Linked, lookup_tree, Sought, Appended, rows_with, Puts, Named}
use Rattle.bsii_tree.specs.declared.Slot.{Slot}
use Rattle.bsii_tree.specs.declared.Slot.TheVariants as slot
use Rattle.bsii_tree.proofs.Searches.{tree_once, within_33}
use Rattle.bsii_tree.proofs.Trees.{planted, replanted}

-- a row without links, in the words behind the others
pub leaf_written : (t : List ℕ) (rows o : ℕ) → 3 * rows + 3 ≤ length t
    → Appended t rows o (set (set (set t (3 * rows) o) (3 * rows + 1) 0) (3 * rows + 2) 0)
leaf_written t rows o room = record {
  size = simp length-set;
  kept = λ n l. past n (omega arith) (omega arith) ∙ get_or-set_other t (3 * rows) n o 0 (omega arith);
  here = past (3 * rows) (omega arith) (omega arith) ∙ get_or-set_same t (3 * rows) o 0 (omega arith);
  ends = ends;
}
  where
    u₁ : List ℕ
    u₁ = set t (3 * rows) o

    u₂ : List ℕ
    u₂ = set u₁ (3 * rows + 1) 0

    t' : List ℕ
    t' = set u₂ (3 * rows + 2) 0

    past : (n : ℕ) → (n ≡ 3 * rows + 1 → ⊥) → (n ≡ 3 * rows + 2 → ⊥) → get_or t' n 0 ≡ get_or u₁ n 0
    past n y z = get_or-set_other u₂ (3 * rows + 2) n 0 0 z ∙ get_or-set_other u₁ (3 * rows + 1) n 0 0 y

    ends : (b : ℕ) → b < 2 → link_of t' rows b ≡ 0
    ends zero l =
        get_or-set_other u₂ (3 * rows + 2) (3 * rows + 1 + 0) 0 0 (omega arith)
        ∙ ap (λ (n : ℕ). get_or u₂ n 0) (let q : 3 * rows + 1 + 0 ≡ 3 * rows + 1 = omega arith in q)
        ∙ get_or-set_same u₁ (3 * rows + 1) 0 0 (rw length-set (omega arith))
    ends (suc b) l =
        ap (λ (n : ℕ). get_or t' n 0) (let q : 3 * rows + 1 + suc b ≡ 3 * rows + 2 = omega arith in q)
        ∙ get_or-set_same u₂ (3 * rows + 2) 0 0 (rw (length-set, length-set) (omega arith))

module _ {f t : List ℕ} {rows : ℕ} (h : Linked f t rows) where
  once : Once (key_of f t) rows
  once = tree_once h.tree

  row_found : {id : ℕ} (i : ℕ) → i < rows → key_of f t i ≡ id → lookup_tree f t rows id ≡ some (row_of t i)
  row_found i l e = finds (key_of f t) (row_of t) once i l e

  pub row_missed : (id : ℕ) → ((i : ℕ) → i < rows → key_of f t i ≡ id → ⊥) → lookup_tree f t rows id ≡ none
  row_missed id n = misses (key_of f t) (row_of t) id n

  -- a look-up is 33 steps of the search, whatever the ids
  pub lookup_steps : 0 < rows → (id : ℕ) → lookup_tree f t rows id ≡ map (row_of t) (search (key_of f t) (link_of t) id 33 0 id)
  lookup_steps l id =
      ⊎_elim
      (λ w. row_found w.0 w.1 w.2 ∙ ap (map (row_of t)) (sym w.3))
      (λ w. row_missed id w.0 ∙ ap (map (row_of t)) (sym w.1))
      (within_33 h.tree l id)

  -- another offset for the row i
  redefines : {id o : ℕ} → Named f rows id o → (i : ℕ) → i < rows → key_of f t i ≡ id → Puts f t rows id o (set t (3 * i) o) rows
  redefines {id} {o} s i l e =
      record {
        valid = record {
          room = omega (arith, size, h.room);
          tree = replanted h.tree keys (λ r b m n. same (3 * r + 1 + b) (omega arith));
          inside = inside;
        };
        size = size;
        count = sym (ap (rows_with rows) (row_found i l e));
        looks = λ x. replaced once i l e keys rows_same x ∙ ap (λ (o : ℕ). cond (eqb x id) (some (offsets o o)) (lookup_tree f t rows x)) here;
      }
    where
      t' : List ℕ
      t' = set t (3 * i) o

      size : length t' ≡ length t
      size = length-set t (3 * i) o

      here : offset_of t' i ≡ o
      here = get_or-set_same t (3 * i) o 0 (omega (arith, h.room))

      same : (k : ℕ) → (k ≡ 3 * i → ⊥) → get_or t' k 0 ≡ get_or t k 0
      same k n = get_or-set_other t (3 * i) k o 0 n

      offset : (r : ℕ) → (r ≡ i → ⊥) → offset_of t' r ≡ offset_of t r
      offset r n = same (3 * r) (λ q. n (omega arith))

      rows_same : (r : ℕ) → (r ≡ i → ⊥) → row_of t' r ≡ row_of t r
      rows_same r n = ap₂ offsets (offset r n) (offset r n)

      inside : (r : ℕ) → r < rows → offset_of t' r + 9 ≤ length f
      inside r m = go (ℕ_discrete r i)
        where
          go : Dec (r ≡ i) → offset_of t' r + 9 ≤ length f
          go (yes y) = rw y (omega (arith, here, s.inside))
          go (no n) = omega (arith, offset r n, h.inside r m)

      keys : (r : ℕ) → r < rows → key_of f t' r ≡ key_of f t r
      keys r m = go (ℕ_discrete r i)
        where
          go : Dec (r ≡ i) → key_of f t' r ≡ key_of f t r
          go (yes y) = rw y (ap (id_of f) here ∙ s.named ∙ sym e)
          go (no n) = ap (id_of f) (offset r n)

  -- one row more, behind the others
  appends : {t' : List ℕ} {id o : ℕ} → 3 * rows + 3 ≤ length t → Tree (key_of f t') (link_of t') (suc rows)
      → ((i : ℕ) → i < rows → key_of f t i ≡ id → ⊥) → length t' ≡ length t → ((r : ℕ) → r < rows → offset_of t' r ≡ offset_of t r) → offset_of t' rows ≡ o
      → Named f rows id o → Puts f t rows id o t' (suc rows)
  appends {t'} {id} {o} room tree new size kept here s = record {
    valid = record {
      room = omega (arith, size);
      tree = tree;
      inside = λ r l.
          ⊎_elim
          (λ e. rw e (omega (arith, here, s.inside)))
          (λ m. omega (arith, kept r m, h.inside r m))
          (eq-or-lt_of_le (let m : r ≤ rows = omega arith in m));
    };
    size = size;
    count = sym (ap (rows_with rows) (row_missed id new));
    looks = λ x.
        appended once (tree_once tree) (ap (id_of f) here ∙ s.named) (λ r l. ap (id_of f) (kept r l)) (λ r l. ap₂ offsets (kept r l) (kept r l)) x
        ∙ ap (λ (o : ℕ). cond (eqb x id) (some (offsets o o)) (lookup_tree f t rows x)) here;
  }

  -- under the row p on the side b
  hangs : {id o p b : ℕ} → Place (key_of f t) (link_of t) rows id p b → Named f rows id o → 3 * rows + 3 ≤ length t → {u : List ℕ} → Appended t rows o u
      → Puts f t rows id o (set u (3 * p + 1 + b) rows) (suc rows)
  hangs {id} {o} {p} {b} g s room {u} a =
      appends room (g.grows (key_of f t') (link_of t') leaf) g.new size kept here s
    where
      t' : List ℕ
      t' = set u (3 * p + 1 + b) rows

      size : length t' ≡ length t
      size = length-set u (3 * p + 1 + b) rows ∙ a.size

      b_side : b < 2
      b_side = g.side

      up : (n : ℕ) → (n ≡ 3 * p + 1 + b → ⊥) → get_or t' n 0 ≡ get_or u n 0
      up n e = get_or-set_other u (3 * p + 1 + b) n rows 0 e

      kept : (r : ℕ) → r < rows → offset_of t' r ≡ offset_of t r
      kept r l = up (3 * r) (omega arith) ∙ a.kept (3 * r) (omega arith)

      here : offset_of t' rows ≡ o
      here = up (3 * rows) (omega arith) ∙ a.here

      leaf : Leaf (key_of f t) (link_of t) rows id p b (key_of f t') (link_of t')
      leaf = record {
        keys = λ r l. ap (id_of f) (kept r l);
        new = ap (id_of f) here ∙ s.named;
        linked = get_or-set_same u (3 * p + 1 + b) rows 0 (omega (arith, a.size));
        ends = λ c l. up (3 * rows + 1 + c) (omega arith) ∙ a.ends c l;
        others = λ r c l m n. up (3 * r + 1 + c) (λ q. n (omega arith) (omega arith)) ∙ a.kept (3 * r + 1 + c) (omega arith);
      }

-- the first row is the root
pub plants : {f t : List ℕ} {rows : ℕ} → rows ≡ 0 → Linked f t rows → {id o : ℕ} → Named f rows id o → 3 ≤ length t → {u : List ℕ} → Appended t 0 o u → Puts f t rows id o u 1
plants {f} {t} {rows} e h {id} {o} s room {u} a =
    subst (λ (n : ℕ). Puts f t n id o u 1) (sym e)
    (appends (subst (Linked f t) e h) room (planted (key_of f u) (link_of u) a.ends) (λ i l. absurd (omega arith)) a.size (λ r l. absurd (omega arith))
    a.here (subst (λ (n : ℕ). Named f n id o) e s))

-- ---- by the word that `seek` answered

module _ {f t : List ℕ} {rows : ℕ} (h : Linked f t rows) (id : ℕ) {s : Slot} {at : ℕ} where
  module _ (e : s ≡ slot.Row at) (l : Sought f t rows id s) where
    row : Sought f t rows id (slot.Row at)
    row = subst (Sought f t rows id) e l

    -- a row's words are in the table
    pub slot_row_ends : at + 3 ≤ length t
    slot_row_ends = omega (arith, h.room, row.1, row.2)

    pub slot_found : some (offsets (get_or t at 0) (get_or t at 0)) ≡ lookup_tree f t rows id
    slot_found = rw row.2 (sym (row_found h row.0 row.1 row.3))

    pub slot_redefined : {o : ℕ} → Named f rows id o → Puts f t rows id o (set t at o) rows
    slot_redefined w = rw row.2 (redefines h w row.0 row.1 row.3)

  module _ (e : s ≡ slot.Link at) (l : Sought f t rows id s) where
    link : Sought f t rows id (slot.Link at)
    link = subst (Sought f t rows id) e l

    pub slot_link_ends : at < length t
    slot_link_ends = omega (arith, h.room, link.2, link.3.row, link.3.side)

    pub slot_missed : lookup_tree f t rows id ≡ none
    slot_missed = row_missed h id link.3.new

    pub slot_hung : {o : ℕ} → Named f rows id o → 3 * rows + 3 ≤ length t → {u : List ℕ} → Appended t rows o u → Puts f t rows id o (set u at rows) (rows + 1)
    slot_hung w room a = rw (link.2, add-one rows) (hangs h link.3 w room a)
