-- The table against the definitions so far, with their offsets.
use mathlib.Core.Path.{◌≡◌, refl, sym, ap, ◌∙◌}
use Prim.Native.Nat.{ℕ, ◌+◌}
use mathlib.Core.Bool.{Bool, true, false, cond}
use mathlib.Core.Option
use mathlib.Core.Option.{Option, none, some}
use mathlib.Core.List.{List, [], ◌∷◌}
use lib.ListN.{drop}
use lib.Dec.{eqb}
use Rattle.bsii_format.specs.Prototypes.{Prototype}
use Rattle.bsii_format.specs.Blocks.{find_by, get_prototype}
use Rattle.bsii_format.specs.Reader.{ok}
use Rattle.bsii_format.specs.File.{Record, prototype, block, define, define_all, defining, head_parser}
use Rattle.bsii_format.specs.Calls.{Placed, placed, cons_prototype, prototypes_in}
use Rattle.bsii_table.specs.Rows.{Row, offsets, lookup_from}
use Rattle.bsii_table.specs.Table.{found_row}
use Rattle.bsii_table.specs.declared.Row.{Row as FoundRow}
use Rattle.bsii_tree.specs.Table.{lookup_tree, Puts, Named}
use Rattle.bsii_tree.proofs.Ids.{head_id}
use Rattle.bsii_tree.proofs.Relation.{grows_none, offsets_same}
use Rattle.bsii_order.specs.Ordered.{Ordered}
use Rattle.bsii_order.proofs.Rows.{order_holds}
use Rattle.bsii_parse.specs.declared.walk.Progress.{Progress}
use Rattle.bsii_block.specs.Blocks.{DefinedAt}
use Rattle.bsii_parse.specs.Walks.{bare, Growing, Kept, Ready}
use Rattle.std.specs.Prelude.{Some}

-- an empty table holds no definition, whatever its words
pub growing_none : (s t : List ℕ) → Growing s t 0 []
unfolding lookup_from find_by
growing_none s t = record { holds = grows_none (DefinedAt s) s t; offsets = λ id. refl }

-- `order` keeps what a look-up finds
pub kept_ordered : {s t t' : List ℕ} {rows : ℕ} {env : List (Placed Prototype)} → Growing s t rows env → Ordered s t rows t' → Kept s t' rows env
kept_ordered {s} g w = record {
  holds = order_holds (DefinedAt s) g.holds w;
  offsets = λ id. ap (Option.map (λ (r : Row). r.last)) (w.looks id) ∙ g.offsets id;
}

-- what `define` asks of a definition that is read here
pub named_at : {s : List ℕ} {p : Progress} {t : List ℕ} {id : ℕ} {name : List ℕ} {n : ℕ} {r : List ℕ} → Ready s p t
    → head_parser p.at (drop p.at s) ≡ ok (defining id name) n r → Named s p.rows id p.at
named_at {s} {p} h e = let i = head_id s p.at e in record { named = i.0; inside = i.1; behind = h.few }

cond_map : {A B : Type 0} (f : A → B) (b : Bool) (a : A) (o : Option A) → Option.map f (cond b (some a) o) ≡ cond b (some (f a)) (Option.map f o)
cond_map f true a o = refl
cond_map f false a o = refl

-- the rows' offsets after a definition at `o`
pub offsets_put : (s t : List ℕ) (rows : ℕ) (t' : List ℕ) (rows' : ℕ) (env : List (Placed Prototype)) (p : Prototype) (o : ℕ) → Puts s t rows p.id o t' rows'
    → ((id : ℕ) → Option.map (λ (r : Row). r.last) (lookup_tree s t rows id) ≡ Option.map (λ (q : Placed Prototype). q.offset) (find_by (λ (q : Placed Prototype). q.it.id) id env))
    → (id : ℕ) → Option.map (λ (r : Row). r.last) (lookup_tree s t' rows' id) ≡ Option.map (λ (q : Placed Prototype). q.offset) (find_by (λ (q : Placed Prototype). q.it.id) id (record { offset = o; it = p } ∷ env))
unfolding find_by
offsets_put s t rows t' rows' env p o h k id =
    ap (Option.map (λ (r : Row). r.last)) (h.looks id)
    ∙ cond_map (λ (r : Row). r.last) (eqb id p.id) (offsets o o) (lookup_tree s t rows id)
    ∙ ap (cond (eqb id p.id) (some o)) (k id)
    ∙ sym (cond_map (λ (q : Placed Prototype). q.offset) (eqb id p.id) (record { offset = o; it = p }) (find_by (λ (q : Placed Prototype). q.it.id) id env))

-- ---- definitions with and without offsets

pub bare_cons : (at : ℕ) (i : Record) (env : List (Placed Prototype)) → bare (cons_prototype at i env) ≡ define i (bare env)
unfolding cons_prototype define
bare_cons at (prototype p) env = refl
bare_cons at (block b) env = refl

pub bare_all : (size : Record → ℕ) (at : ℕ) (l : List Record) (env : List (Placed Prototype)) → bare (prototypes_in (placed size at l) env) ≡ define_all l (bare env)
unfolding prototypes_in placed define_all
bare_all size at [] env = refl
bare_all size at (i ∷ l) env = bare_all size (at + size i) l (cons_prototype at i env) ∙ ap (define_all l) (bare_cons at i env)

bare_find : (id : ℕ) (env : List (Placed Prototype))
    → get_prototype id (bare env) ≡ Option.map (λ (q : Placed Prototype). q.it) (find_by (λ (q : Placed Prototype). q.it.id) id env)
unfolding find_by
bare_find id [] = refl
bare_find id (p ∷ env) =
    ap (cond (eqb id p.it.id) (some p.it)) (bare_find id env)
    ∙ sym (cond_map (λ (q : Placed Prototype). q.it) (eqb id p.it.id) p (find_by (λ (q : Placed Prototype). q.it.id) id env))

-- the definition that a look-up of the tree finds, with its offset
pub placed_at : {s t : List ℕ} {rows : ℕ} {env : List (Placed Prototype)} → Growing s t rows env → (id : ℕ) {r : FoundRow}
    → found_row (Some r) ≡ lookup_tree s t rows id → {p : Prototype} → get_prototype id (bare env) ≡ some p
    → (q : Placed Prototype) × (find_by (λ (q : Placed Prototype). q.it.id) id env ≡ some q) × (q.offset ≡ r.in_force) × (q.it ≡ p)
placed_at {s} {t} {rows} {env} k id {r} f {p} g = go (find_by (λ (q : Placed Prototype). q.it.id) id env) refl
  where
    row : lookup_tree s t rows id ≡ some (offsets r.in_force r.last)
    row = sym f

    go : (o : Option (Placed Prototype)) → find_by (λ (q : Placed Prototype). q.it.id) id env ≡ o
        → (q : Placed Prototype) × (find_by (λ (q : Placed Prototype). q.it.id) id env ≡ some q) × (q.offset ≡ r.in_force) × (q.it ≡ p)
    go none h = let x : none ≡ some p = sym (bare_find id env ∙ ap (Option.map (λ (q : Placed Prototype). q.it)) h) ∙ g in cc
    go (some q) h =
        let x : some q.it ≡ some p = sym (bare_find id env ∙ ap (Option.map (λ (q : Placed Prototype). q.it)) h) ∙ g in
        let y : some r.last ≡ some q.offset =
        sym (ap (Option.map (λ (r : Row). r.last)) row) ∙ k.offsets id ∙ ap (Option.map (λ (q : Placed Prototype). q.offset)) h in
        let w = offsets_same s t rows id row in
        (q, h, cc, cc)
