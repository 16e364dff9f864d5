-- The laws of trees: where a search for an id goes, where its leaf belongs, and that the rows are a tree with it.
use Prim.Native.Nat.{ℕ, suc, ◌+◌, ◌-◌, ◌/◌, ◌%◌, ◌^◌, ◌≤◌, ◌<◌}
use native.Mathlib.Nat.{eq-or-lt_of_le}
use native.Mathlib.Decide.{ℕ_discrete}
use native.Mathlib.Omega.{arith}
use mathlib.Core.Path.{◌≡◌, refl, sym, ap, ap₂, ◌∙◌, subst}
use mathlib.Core.Logic.{◌⊎◌, inl, inr, ⊎_elim}
use mathlib.Core.Bool.{cond}
use mathlib.Core.Option.{none, some}
use lib.Dec.{eqb}
use borrow.Author.Tests.{eq-eqb, ne_eqb}
use Rattle.bsii_tree.specs.Tree.{drop_bits, SamePrefix, search, Child, Tree, Leaf, Place}
use Rattle.bsii_tree.proofs.Prefixes.{prefix_sym, prefix_trans, prefix_ids}
use Rattle.bsii_tree.proofs.Searches.{hit, ends, goes, some≢none, Extends, extends_self, stays_found}

-- no row
pub bare_tree : (key : ℕ → ℕ) (link : ℕ → ℕ → ℕ) → Tree key link 0
bare_tree key link = record { depth = λ r. 0; root = refl; child = λ r b l m n. absurd (omega arith); found = λ r l. absurd (omega arith) }

-- the first row
pub planted : (key : ℕ → ℕ) (link : ℕ → ℕ → ℕ) → ((b : ℕ) → b < 2 → link 0 b ≡ 0) → Tree key link 1
planted key link leaf = record {
  depth = λ r. 0;
  root = refl;
  child = λ r b l m n. absurd (n (ap (λ (r : ℕ). link r b) (let z : r ≡ 0 = omega arith in z) ∙ leaf b m));
  found = λ r l.
      subst (λ (r : ℕ). search key link (key r) 33 0 (key r) ≡ some r) (let z : 0 ≡ r = omega arith in z)
      (hit key link (key 0) 32 0 (key 0) refl);
}

-- other rows with the same ids and links
pub replanted : {key : ℕ → ℕ} {link : ℕ → ℕ → ℕ} {rows : ℕ} → Tree key link rows → {key' : ℕ → ℕ} {link' : ℕ → ℕ → ℕ}
    → ((r : ℕ) → r < rows → key' r ≡ key r) → ((r b : ℕ) → r < rows → b < 2 → link' r b ≡ link r b) → Tree key' link' rows
replanted {key} {link} {rows} h {key'} {link'} keys links = record {
  depth = h.depth;
  root = h.root;
  child = λ r b l m n.
      let same = links r b l m in
      let c = h.child r b l m (λ z. n (same ∙ z)) in
      rw same (record {
        row = c.row;
        deeper = c.deeper;
        prefix = rw (keys r l, keys (link r b) c.row) c.prefix;
        side = rw (keys (link r b) c.row) c.side;
      });
  found = stays_found h (record { keys = keys; links = λ r b l m n. links r b l m });
}

-- ---- where a search for an id goes

module _ {key : ℕ → ℕ} {link : ℕ → ℕ → ℕ} {rows : ℕ} (h : Tree key link rows) where
  -- It has reached the row r: all ids here have the prefix that it has read, and so it does in each tree that extends this one.
  pub record Reached (id : ℕ) (r : ℕ) (bits : ℕ) (left : ℕ) : Type 0 where
    pub row : r < rows
    pub steps : h.depth r + left ≡ 33
    pub step : 0 < left
    pub prefix : SamePrefix (h.depth r) (key r) id
    pub rest : bits ≡ drop_bits (h.depth r) id
    pub comes : (key' : ℕ → ℕ) (link' : ℕ → ℕ → ℕ) → Extends key link rows key' link' → search key' link' id 33 0 id ≡ search key' link' id left r bits

  pub reached_root : (id : ℕ) → 0 < rows → Reached id 0 id 33
  unfolding SamePrefix drop_bits
  reached_root id l = record {
    row = l;
    steps = omega (arith, h.root);
    step = omega arith;
    prefix = subst (λ (d : ℕ). SamePrefix d (key 0) id) (sym h.root) tt;
    rest = ap (λ (d : ℕ). drop_bits d id) (sym h.root);
    comes = λ key' link' w. refl;
  }

  module _ {id r bits left : ℕ} (o : Reached id r bits left) (n : key r ≡ id → ⊥) (k : key r < 2 ^ 32) (i : id < 2 ^ 32) where
    abbrev pub b : ℕ
    b = bits % 2

    b_side : b < 2
    b_side = omega arith

    -- the ids differ, so there are bits left
    shallow : h.depth r < 32
    shallow = ⊎_elim
        (λ e. absurd (n (prefix_ids (key r) id k i (subst (λ (d : ℕ). SamePrefix d (key r) id) e o.prefix))))
        (λ l. l)
        (eq-or-lt_of_le (let l : h.depth r ≤ 32 = omega (arith, o.steps, o.step) in l))

    -- one step in a tree that extends this one
    module _ (key' : ℕ → ℕ) (link' : ℕ → ℕ → ℕ) (w : Extends key link rows key' link') where
      other : key' r ≡ id → ⊥
      other q = n (sym (w.keys r o.row) ∙ q)

      comes_here : (m : ℕ) → left ≡ m → search key' link' id 33 0 id ≡ search key' link' id m r bits
      comes_here m e = o.comes key' link' w ∙ ap (λ (m : ℕ). search key' link' id m r bits) e

    pub reached_child : (link r b ≡ 0 → ⊥) → Reached id (link r b) (bits / 2) (left - 1)
    unfolding SamePrefix drop_bits
    reached_child z =
        let c = h.child r b o.row b_side z in
        record {
          row = c.row;
          steps = omega (arith, o.steps, c.deeper, o.step);
          step = omega (arith, o.steps, shallow);
          prefix = subst (λ (d : ℕ). SamePrefix d (key (link r b)) id) (sym c.deeper)
              (prefix_trans (h.depth r) (key (link r b)) (key r) id c.prefix o.prefix, c.side ∙ ap (λ (x : ℕ). x % 2) o.rest);
          rest = ap (λ (x : ℕ). x / 2) o.rest ∙ ap (λ (d : ℕ). drop_bits d id) (sym c.deeper);
          comes = λ key' link' w.
              let same = w.links r b o.row b_side z in
              comes_here key' link' w (suc (left - 1)) (omega (arith, o.step))
              ∙ goes key' link' id (left - 1) r bits (other key' link' w) (λ q. z (sym same ∙ q))
              ∙ ap (λ (c : ℕ). search key' link' id (left - 1) c (bits / 2)) same;
        }

    -- ---- where its leaf belongs

    module _ (z : link r b ≡ 0) where
      missed : search key link id 33 0 id ≡ none
      missed =
          comes_here key link (extends_self key link rows) (suc (left - 1)) (omega (arith, o.step))
          ∙ ends key link id (left - 1) r bits n z

      module _ (key' : ℕ → ℕ) (link' : ℕ → ℕ → ℕ) (w : Leaf key link rows id r b key' link') where
        extends : Extends key link rows key' link'
        extends = record { keys = w.keys; links = λ s c l m q. w.others s c l m (λ x y. q (ap₂ link x y ∙ z)) }

        finds_leaf : search key' link' id 33 0 id ≡ some rows
        finds_leaf =
            comes_here key' link' extends (suc (suc (left - 2))) (omega (arith, o.steps, shallow))
            ∙ goes key' link' id (suc (left - 2)) r bits (other key' link' extends) (λ q. omega (arith, w.linked, o.row))
            ∙ hit key' link' id (left - 2) (link' r b) (bits / 2) (ap key' w.linked ∙ w.new)
            ∙ ap some w.linked

        abbrev depth : ℕ → ℕ
        depth s = cond (eqb s rows) (suc (h.depth r)) (h.depth s)

        old : (s : ℕ) → s < rows → depth s ≡ h.depth s
        old s l = rw (ne_eqb s rows (omega arith))

        new : depth rows ≡ suc (h.depth r)
        new = rw (eq-eqb rows rows refl)

        at_leaf : Child key' depth (suc rows) r b rows
        at_leaf = record {
          row = omega arith;
          deeper = new ∙ ap suc (sym (old r o.row));
          prefix = rw (old r o.row, w.new, w.keys r o.row) (prefix_sym (h.depth r) (key r) id o.prefix);
          side = rw (old r o.row, w.new) (ap (λ (x : ℕ). x % 2) (sym o.rest));
        }

        at_old : (s c : ℕ) → s < rows → c < 2 → (link s c ≡ 0 → ⊥) → Child key' depth (suc rows) s c (link s c)
        at_old s c l m q =
            let x = h.child s c l m q in
            record {
              row = omega (arith, x.row);
              deeper = old (link s c) x.row ∙ x.deeper ∙ ap suc (sym (old s l));
              prefix = rw (old s l, w.keys (link s c) x.row, w.keys s l) x.prefix;
              side = rw (old s l, w.keys (link s c) x.row) x.side;
            }

        below : (s c : ℕ) → s < rows → c < 2 → (link' s c ≡ 0 → ⊥) → Dec (s ≡ r) → Dec (c ≡ b) → Child key' depth (suc rows) s c (link' s c)
        below s c l m q (yes x) (yes y) = rw (x, y, w.linked) at_leaf
        below s c l m q (no x) d = let e = w.others s c l m (λ y _. x y) in rw e (at_old s c l m (λ a. q (e ∙ a)))
        below s c l m q (yes x) (no y) = let e = w.others s c l m (λ _ x. y x) in rw e (at_old s c l m (λ a. q (e ∙ a)))

        child : (s c : ℕ) → c < 2 → (link' s c ≡ 0 → ⊥) → (s ≡ rows) ⊎ (s < rows) → Child key' depth (suc rows) s c (link' s c)
        child s c m q (inl e) = absurd (q (ap (λ (s : ℕ). link' s c) e ∙ w.ends c m))
        child s c m q (inr l) = below s c l m q (ℕ_discrete s r) (ℕ_discrete c b)

        found : (s : ℕ) → (s ≡ rows) ⊎ (s < rows) → search key' link' (key' s) 33 0 (key' s) ≡ some s
        found s (inl e) = rw (e, w.new) finds_leaf
        found s (inr l) = stays_found h extends s l

        grown : Tree key' link' (suc rows)
        grown = record {
          depth = depth;
          root = old 0 (omega (arith, o.row)) ∙ h.root;
          child = λ s c l m q. child s c m q (eq-or-lt_of_le (let k : s ≤ rows = omega arith in k));
          found = λ s l. found s (eq-or-lt_of_le (let k : s ≤ rows = omega arith in k));
        }

      pub placed : Place key link rows id r b
      placed = record { row = o.row; side = b_side; new = λ s l e. some≢none (h.found s l) (rw e missed); grows = grown }
