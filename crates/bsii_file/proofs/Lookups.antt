-- What every look-up has from `bsii_parser`: the file and the call's answer, and from `find` the last definition of an id.
use mathlib.Core.Path.{◌≡◌, refl, sym, ap, ◌∙◌, subst}
use Prim.Native.Nat.{ℕ}
use native.Mathlib.Omega.{arith}
use mathlib.Core.Bool.{Bool, true, false, cond}
use mathlib.Core.Option.{Option, none, some, map}
use mathlib.Core.List.{List, [], ◌∷◌}
use lib.ListN.{length, drop}
use lib.Dec.{eqb}
use Rattle.bsii_format.specs.Replies.{Reply, refuses}
use Rattle.bsii_format.specs.Reader.{ok, fault}
use Rattle.bsii_format.specs.Prototypes.{Prototype}
use Rattle.bsii_format.specs.Blocks.{find_by, get_prototype}
use Rattle.bsii_format.specs.File.{record_bytes, BsiiFile, parse, prototypes_of}
use Rattle.bsii_format.specs.Calls.{Placed, of_file, placed_records, prototypes_in}
use Rattle.bsii_string.specs.Answers.{fault_is}
use Rattle.bsii_string.specs.declared.answers.Refusal.{Refusal}
use Rattle.bsii_table.specs.Rows.{Row, lookup}
use Rattle.bsii_table.specs.Table.{found_row}
use Rattle.bsii_table.specs.Relation.{Holds}
use Rattle.bsii_table.specs.declared.Row.{Row as FoundRow}
use Rattle.bsii_table.proofs.Relation.{found_at, found_nothing}
use Rattle.bsii_block.specs.Blocks.{DefinedAt}
use Rattle.bsii_parse.specs.Walks.{totals_of, bare, Kept, ReadFile, read, unread}
use Rattle.bsii_parse.specs.declared.walk.Totals.{Totals}
use Rattle.bsii_parse.proofs.Tables.{bare_all}
use Rattle.bsii_file.specs.Lookups.{last_definition}
use Rattle.std.specs.Prelude.{Ok, Err, Result as Outcome, Some, None, Option as Answer}

-- ---- the file

-- the file that was read, what was found of it, and the table that holds its definitions
pub record WasRead (s t : List ℕ) (a : Totals) (t' : List ℕ) : Type 0 where
  pub file : BsiiFile
  pub parsed : parse (length t) s ≡ ok file a.next (drop a.next s)
  pub kept : Kept s t' a.rows (prototypes_in (placed_records file) [])
  pub counted : a ≡ totals_of file.header.value a.rows file.records a.next

was_read_as : {s t : List ℕ} {r : Outcome Totals Refusal} {t' : List ℕ} {a : Totals} → ReadFile s t r t' → r ≡ Ok a → WasRead s t a t'
was_read_as {s} {t} {t' = t'} {a = a} (read f {rows = rows} {n = n} e k l) q =
    let same : totals_of f.header.value rows f.records n ≡ a = cc in
    subst (λ (x : Totals). WasRead s t x t') same (record { file = f; parsed = e; kept = k; counted = refl })
was_read_as (unread e l) q = cc

pub was_read : {s t : List ℕ} {t' : List ℕ} {a : Totals} → ReadFile s t (Ok a) t' → WasRead s t a t'
was_read h = was_read_as h refl

refused_as : {s t : List ℕ} {r : Outcome Totals Refusal} {t' : List ℕ} {f : Refusal} → ReadFile s t r t' → r ≡ Err f → parse (length t) s ≡ fault (fault_is f)
refused_as (read f e k l) q = cc
refused_as {f = f} (unread {f = g} e l) q = let same : g ≡ f = cc in e ∙ ap (λ (x : Refusal). fault (fault_is x)) same

pub was_refused : {s t : List ℕ} {t' : List ℕ} {f : Refusal} → ReadFile s t (Err f) t' → parse (length t) s ≡ fault (fault_is f)
was_refused h = refused_as h refl

-- a call's answer is its own function of the file
pub read_answers : {A : Type 0} {s t : List ℕ} {a : Totals} {t' : List ℕ} (answer : BsiiFile → ℕ → Reply A) (w : WasRead s t a t')
    → of_file answer (parse (length t) s) ≡ answer w.file a.next
unfolding of_file
read_answers answer w = ap (of_file answer) w.parsed

-- or the file's fault, whatever was asked for
pub unread_refuses : {A : Type 0} (answer : BsiiFile → ℕ → Reply A) (words : ℕ) (s : List ℕ) {f : Refusal} → parse words s ≡ fault (fault_is f)
    → of_file answer (parse words s) ≡ refuses (fault_is f)
unfolding of_file
unread_refuses answer words s e = ap (of_file answer) e

-- ---- the last definition of an id

abbrev pub bare_of : Option (Placed Prototype) → Option Prototype
bare_of = map (λ (p : Placed Prototype). p.it)

-- looked up with its offset or without
pub bare_found : (id : ℕ) (env : List (Placed Prototype)) → get_prototype id (bare env) ≡ bare_of (last_definition id env)
unfolding find_by
bare_found id [] = refl
bare_found id (p ∷ env) = go (eqb id p.it.id) (last_definition id env) (bare_found id env)
  where
    go : (b : Bool) (q : Option (Placed Prototype)) {o : Option Prototype} → o ≡ bare_of q → cond b (some p.it) o ≡ bare_of (cond b (some p) q)
    go true q e = refl
    go false q e = e

-- the table holds a file's definitions: what a second walk over the file starts from
pub holds_last : {s t : List ℕ} {a : Totals} {t' : List ℕ} (w : WasRead s t a t') → Holds (DefinedAt s) t' a.rows (prototypes_of w.file.records)
unfolding prototypes_of placed_records
holds_last {s} {a = a} {t' = t'} w =
    let f = w.file in
    subst (Holds (DefinedAt s) t' a.rows) (bare_all (λ r. length (record_bytes r)) (length f.header.raw) f.records []) w.kept.holds

some≢none : {P : Type 0} {p : Prototype} → ◌≡◌ {A = Option Prototype} (some p) none → P
some≢none e = let z : ◌≡◌ {A = ℕ} 0 1 = cc in let f : ⊥ = omega arith in absurd f

-- the last definition of the id stands at o
pub record LastAt (s : List ℕ) (id o : ℕ) (env : List (Placed Prototype)) : Type 0 where
  pub definition : Prototype
  pub found : last_definition id env ≡ some (record { offset = o; it = definition })
  pub stands : DefinedAt s o definition

module _ {s t : List ℕ} {rows : ℕ} {env : List (Placed Prototype)} (k : Kept s t rows env) (id : ℕ) {r : Answer FoundRow} (f : found_row r ≡ lookup t rows id) where
  pub last_at : {w : FoundRow} → r ≡ Some w → LastAt s id w.last env
  last_at {w} q = let x = found_at (DefinedAt s) k.holds id q f in go (last_definition id env) refl x.0 (sym x.1 ∙ bare_found id env) x.3
    where
      offset : some w.last ≡ map (λ (p : Placed Prototype). p.offset) (last_definition id env)
      offset = ap (map (λ (r : Row). r.last)) (sym (ap found_row q) ∙ f) ∙ k.offsets id

      go : (o : Option (Placed Prototype)) → last_definition id env ≡ o → (p : Prototype) → some p ≡ bare_of o → DefinedAt s w.last p → LastAt s id w.last env
      go none e p h x = some≢none h
      go (some d) e p h x =
          let z : some w.last ≡ some d.offset = offset ∙ ap (map (λ (p : Placed Prototype). p.offset)) e in
          let i : d.it ≡ p = cc in
          let j : d.offset ≡ w.last = cc in
          record { definition = d.it; found = e ∙ rw j; stands = subst (DefinedAt s w.last) (sym i) x }

  pub last_nothing : r ≡ None → last_definition id env ≡ none
  last_nothing q = go (last_definition id env) (sym (bare_found id env) ∙ found_nothing (DefinedAt s) k.holds id q f)
    where
      go : (o : Option (Placed Prototype)) → bare_of o ≡ none → o ≡ none
      go none h = refl
      go (some d) h = some≢none h
