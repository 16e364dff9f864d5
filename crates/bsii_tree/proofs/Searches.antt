-- The laws of a search: its steps, and what it finds in a tree and in each that extends it.
use Prim.Native.Nat.{ℕ, zero, suc, ◌/◌, ◌%◌, ◌<◌}
use native.Mathlib.Decide.{ℕ_discrete}
use native.Mathlib.Omega.{arith}
use mathlib.Core.Path.{◌≡◌, refl, sym, ap, ◌∙◌}
use mathlib.Core.Logic.{◌⊎◌, inl, inr}
use mathlib.Core.Option.{Option, none, some}
use borrow.Author.Tests.{eq-eqb, ne_eqb}
use Rattle.bsii_table.proofs.Lookups.{Once}
use Rattle.bsii_tree.specs.Tree.{search, Tree}

module _ (key : ℕ → ℕ) (link : ℕ → ℕ → ℕ) (x n r bits : ℕ) where
  pub hit : key r ≡ x → search key link x (suc n) r bits ≡ some r
  unfolding search
  hit e = rw (eq-eqb (key r) x e)

  pub ends : (key r ≡ x → ⊥) → link r (bits % 2) ≡ 0 → search key link x (suc n) r bits ≡ none
  unfolding search
  ends e z = rw (ne_eqb (key r) x e, eq-eqb (link r (bits % 2)) 0 z)

  pub goes : (key r ≡ x → ⊥) → (link r (bits % 2) ≡ 0 → ⊥)
      → search key link x (suc n) r bits ≡ search key link x n (link r (bits % 2)) (bits / 2)
  unfolding search
  goes e z = rw (ne_eqb (key r) x e, ne_eqb (link r (bits % 2)) 0 z)

pub some≢none : {A : Type 0} {x : A} {o : Option A} → o ≡ some x → o ≡ none → ⊥
some≢none p q = let z : ◌≡◌ {A = ℕ} 0 1 = cc in omega arith

-- ---- what a search finds

-- another tree has the rows of this one, and its links
pub record Extends (key : ℕ → ℕ) (link : ℕ → ℕ → ℕ) (rows : ℕ) (key' : ℕ → ℕ) (link' : ℕ → ℕ → ℕ) : Type 0 where
  pub keys : (r : ℕ) → r < rows → key' r ≡ key r
  pub links : (r b : ℕ) → r < rows → b < 2 → (link r b ≡ 0 → ⊥) → link' r b ≡ link r b

pub extends_self : (key : ℕ → ℕ) (link : ℕ → ℕ → ℕ) (rows : ℕ) → Extends key link rows key link
extends_self key link rows = record { keys = λ r l. refl; links = λ r b l m n. refl }

-- What a search found is a row with the id, and is found in each tree that extends this one.
pub record Finds (key : ℕ → ℕ) (link : ℕ → ℕ → ℕ) (rows : ℕ) (n r bits x s : ℕ) : Type 0 where
  pub row : s < rows
  pub id : key s ≡ x
  pub stays : (key' : ℕ → ℕ) (link' : ℕ → ℕ → ℕ) → Extends key link rows key' link' → search key' link' x n r bits ≡ some s

pub finds : {key : ℕ → ℕ} {link : ℕ → ℕ → ℕ} {rows : ℕ} → Tree key link rows → (n r bits x s : ℕ) → r < rows → search key link x n r bits ≡ some s
    → Finds key link rows n r bits x s
unfolding search
finds h zero r bits x s l e = absurd (some≢none e refl)
finds {key} {link} {rows} h (suc n) r bits x s l e =
    go (ℕ_discrete (key r) x) (ℕ_discrete (link r (bits % 2)) 0) (λ m q. finds h n (link r (bits % 2)) (bits / 2) x s m q)
  where
    go : Dec (key r ≡ x) → Dec (link r (bits % 2) ≡ 0)
        → (link r (bits % 2) < rows → search key link x n (link r (bits % 2)) (bits / 2) ≡ some s → Finds key link rows n (link r (bits % 2)) (bits / 2) x s)
        → Finds key link rows (suc n) r bits x s
    go (yes y) d more =
        let a = hit key link x n r bits y in
        let q : r ≡ s = cc in
        record {
          row = omega arith;
          id = ap key (sym q) ∙ y;
          stays = λ key' link' w. hit key' link' x n r bits (w.keys r l ∙ y) ∙ ap some q;
        }
    go (no y) (yes z) more = absurd (some≢none e (ends key link x n r bits y z))
    go (no y) (no z) more =
        let b : bits % 2 < 2 = omega arith in
        let f = more (h.child r (bits % 2) l b z).row (sym (goes key link x n r bits y z) ∙ e) in
        record {
          row = f.row;
          id = f.id;
          stays = λ key' link' w.
              let same = w.links r (bits % 2) l b z in
              goes key' link' x n r bits (λ q. y (sym (w.keys r l) ∙ q)) (λ q. z (sym same ∙ q))
              ∙ ap (λ (c : ℕ). search key' link' x n c (bits / 2)) same
              ∙ f.stays key' link' w;
        }

module _ {key : ℕ → ℕ} {link : ℕ → ℕ → ℕ} {rows : ℕ} (h : Tree key link rows) where
  pub tree_once : Once key rows
  tree_once r s l m e =
      let a = h.found r l in
      let b : search key link (key r) 33 0 (key r) ≡ some s = rw e (h.found s m) in
      cc

  -- a row is found in each tree that extends this one
  pub stays_found : {key' : ℕ → ℕ} {link' : ℕ → ℕ → ℕ} → Extends key link rows key' link' → (r : ℕ) → r < rows → search key' link' (key' r) 33 0 (key' r) ≡ some r
  stays_found {key'} {link'} w r l =
      rw (w.keys r l) ((finds h 33 0 (key r) (key r) r (omega arith) (h.found r l)).stays key' link' w)

  -- 33 steps find the row of an id, or it has none
  pub within_33 : 0 < rows → (x : ℕ)
      → ((r : ℕ) × (r < rows) × (key r ≡ x) × (search key link x 33 0 x ≡ some r)) ⊎ (((r : ℕ) → r < rows → key r ≡ x → ⊥) × (search key link x 33 0 x ≡ none))
  within_33 l x = go (search key link x 33 0 x) refl
    where
      go : (o : Option ℕ) → search key link x 33 0 x ≡ o
          → ((r : ℕ) × (r < rows) × (key r ≡ x) × (search key link x 33 0 x ≡ some r)) ⊎ (((r : ℕ) → r < rows → key r ≡ x → ⊥) × (search key link x 33 0 x ≡ none))
      go (some s) e = let f = finds h 33 0 x x s l e in inl (s, f.row, f.id, e)
      go none e = inr (λ r m q. some≢none (h.found r m) (rw q e), e)
