-- The laws of the table against the definitions so far: callers carry `Holds` from the reading walk on, then `Entered`, and never unfold a row.
use Prim.Native.Nat.{ℕ}
use mathlib.Core.Path.{◌≡◌, refl, sym, ap, ◌∙◌, subst}
use mathlib.Core.Bool.{Bool, true, false, cond}
use mathlib.Core.Option.{Option, none, some, map}
use mathlib.Core.List.{List, [], ◌∷◌}
use lib.Dec.{eqb}
use borrow.Author.Tests.{eqb-true}
use Rattle.std.specs.Prelude.{Some, None, Option as Answer}
use Rattle.bsii_format.specs.Prototypes.{Prototype}
use Rattle.bsii_format.specs.Blocks.{find_by, get_prototype}
use Rattle.bsii_format.specs.File.{Record, prototype, block, define, define_all}
use Rattle.bsii_table.specs.Rows.{Row, offsets, lookup}
use Rattle.bsii_table.specs.Table.{found_row, with_in_force, Enters}
use Rattle.bsii_table.specs.Relation.{Matches, Represents, Holds, InForce, Follows, Entered}
use Rattle.bsii_table.specs.declared.Row.{Row as FoundRow}

module _ (At : ℕ → Prototype → Type 0) where
  -- ---- the definitions so far

  module _ {Valid : Type 0} {look : ℕ → Option Row} {rows : ℕ} {env : List Prototype} (h : Represents At Valid look rows env) (id : ℕ) {r : Answer FoundRow} where
    -- what `find` answered, as a definition
    pub found_at : {x : FoundRow} → r ≡ Some x → found_row r ≡ look id
        → (p : Prototype) × (get_prototype id env ≡ some p) × At x.in_force p × At x.last p
    found_at {x} q f = go (get_prototype id env) refl (subst (Matches At (get_prototype id env)) (sym f ∙ ap found_row q) (h.each id))
      where
        go : (o : Option Prototype) → get_prototype id env ≡ o → Matches At o (some (offsets x.in_force x.last))
            → (p : Prototype) × (get_prototype id env ≡ some p) × At x.in_force p × At x.last p
        go none e m = absurd m
        go (some p) e m = (p, e, m.0, m.1)

    pub found_nothing : r ≡ None → found_row r ≡ look id → get_prototype id env ≡ none
    found_nothing q f = go (get_prototype id env) (subst (Matches At (get_prototype id env)) (sym f ∙ ap found_row q) (h.each id))
      where
        go : (o : Option Prototype) → Matches At o none → o ≡ none
        go none m = refl
        go (some p) m = absurd m

  -- ---- a walk over a file that was read

  starts : (o : Option Prototype) (l : Option Row) → Matches At o l → Follows At none o l
  starts none none m = tt
  starts none (some r) m = absurd m
  starts (some q) none m = absurd m
  starts (some q) (some r) m = (m.1, tt)

  -- at its start, the last definitions are those of the reading walk
  pub holds_entered : {t : List ℕ} {rows : ℕ} {last : List Prototype} → Holds At t rows last → Entered At t rows [] last
  unfolding find_by
  holds_entered {t} {rows} {last} h = record { valid = h.valid; each = λ id. starts (get_prototype id last) (lookup t rows id) (h.each id) }

  restarts : (o q : Option Prototype) (l : Option Row) → Follows At o q l → Follows At none q l
  restarts o none none m = tt
  restarts o none (some r) m = absurd m
  restarts o (some q) none m = absurd m
  restarts o (some q) (some r) m = (m.0, tt)

  -- at the start of one more walk
  pub entered_again : {t : List ℕ} {rows : ℕ} {env last : List Prototype} → Entered At t rows env last → Entered At t rows [] last
  unfolding find_by
  entered_again {t} {rows} {env} {last} h =
      record { valid = h.valid; each = λ id. restarts (get_prototype id env) (get_prototype id last) (lookup t rows id) (h.each id) }

  follows_put : (o q : Option Prototype) (l : Option Row) (p : Prototype) (a : ℕ) → Follows At o q l → At a p
      → Follows At (some p) q (map (with_in_force a) l)
  follows_put o none none p a m x = tt
  follows_put o none (some r) p a m x = absurd m
  follows_put o (some q) none p a m x = absurd m
  follows_put o (some q) (some r) p a m x = (m.0, x)

  -- the walk meets the prototype p at the offset o
  pub enter_entered : {t : List ℕ} {rows : ℕ} {env last : List Prototype} → Entered At t rows env last → (p : Prototype) {id : ℕ} (o : ℕ) {t' : List ℕ}
      → p.id ≡ id → At o p → Enters t rows id o t' → Entered At t' rows (p ∷ env) last
  unfolding find_by
  enter_entered {t} {rows} {env} {last} h p {id} o {t'} e a f =
      let x = subst (λ (n : ℕ). Enters t rows n o t') (sym e) f in
      record { valid = x.valid; each = λ n. rw (x.looks n) (go n (eqb n p.id) refl) }
    where
      go : (n : ℕ) (b : Bool) → eqb n p.id ≡ b
          → Follows At (cond b (some p) (get_prototype n env)) (get_prototype n last)
          (cond b (map (with_in_force o) (lookup t rows p.id)) (lookup t rows n))
      go n true q =
          rw (eqb-true n p.id q)
          (follows_put (get_prototype p.id env) (get_prototype p.id last) (lookup t rows p.id) p o (h.each p.id) a)
      go n false q = h.each n

  -- `find` in the walk: the last definition, and the one in force
  pub entered_at : {t : List ℕ} {rows : ℕ} {env last : List Prototype} → Entered At t rows env last → (id : ℕ) {r : Answer FoundRow} {x : FoundRow} → r ≡ Some x
      → found_row r ≡ lookup t rows id
      → (q : Prototype) × (get_prototype id last ≡ some q) × At x.last q × ((p : Prototype) → get_prototype id env ≡ some p → At x.in_force p)
  entered_at {t} {rows} {env} {last} h id {r} {x} q f =
      go (get_prototype id last) refl (subst (Follows At (get_prototype id env) (get_prototype id last)) (sym f ∙ ap found_row q) (h.each id))
    where
      go : (o : Option Prototype) → get_prototype id last ≡ o → Follows At (get_prototype id env) o (some (offsets x.in_force x.last))
          → (q : Prototype) × (get_prototype id last ≡ some q) × At x.last q × ((p : Prototype) → get_prototype id env ≡ some p → At x.in_force p)
      go none e m = absurd m
      go (some q) e m = (q, e, m.0, λ p z. subst (λ (o : Option Prototype). InForce At o (offsets x.in_force x.last)) z m.1)

  pub entered_nothing : {t : List ℕ} {rows : ℕ} {env last : List Prototype} → Entered At t rows env last → (id : ℕ) {r : Answer FoundRow} → r ≡ None
      → found_row r ≡ lookup t rows id → get_prototype id last ≡ none
  entered_nothing {t} {rows} {env} {last} h id {r} q f =
      go (get_prototype id last) (subst (Follows At (get_prototype id env) (get_prototype id last)) (sym f ∙ ap found_row q) (h.each id))
    where
      go : (o : Option Prototype) → Follows At (get_prototype id env) o none → o ≡ none
      go none m = refl
      go (some q) m = absurd m

-- ---- definitions so far and those of the whole file

still_put : (b : Bool) (p : Prototype) (o : Option Prototype) {q : Prototype} → o ≡ some q → (q : Prototype) × (cond b (some p) o ≡ some q)
still_put true p o {q} e = (p, refl)
still_put false p o {q} e = (q, e)

-- an id that is defined so far is defined in the file: `define_all l env` is `env` and the definitions of the records to come
pub still_defined : (l : List Record) (env : List Prototype) (id : ℕ) {p : Prototype} → get_prototype id env ≡ some p
    → (q : Prototype) × (get_prototype id (define_all l env) ≡ some q)
unfolding define_all define find_by
still_defined [] env id {p} e = (p, e)
still_defined (block b ∷ l) env id e = still_defined l env id e
still_defined (prototype q ∷ l) env id e = still_defined l (q ∷ env) id (still_put (eqb id q.id) q (get_prototype id env) e).1
