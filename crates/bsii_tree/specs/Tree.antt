-- A digital search tree over row numbers: `key r` is the id of the row r, `link r b` the row that hangs under r on the side b, 0 for none; the
-- row 0 is the root. A search goes down by the bits of an id, the lowest first, and compares the id with the key of each row on its way.
use Rattle.std.specs.Prelude.{ℕ, zero, suc, ◌/◌, ◌%◌, ◌<◌, ◌≡◌, cond, eqb}
use Rattle.std.proofs.Math.Option.{Option, none, some}

-- the row that a search finds in n steps: it is at the row r, and the next bits are those of `bits`
unfoldable pub search : (ℕ → ℕ) → (ℕ → ℕ → ℕ) → ℕ → ℕ → ℕ → ℕ → Option ℕ
search key link id zero r bits = none
search key link id (suc steps) r bits =
    cond (eqb (key r) id) (some r)
    (cond (eqb (link r (bits % 2)) 0) none (search key link id steps (link r (bits % 2)) (bits / 2)))

-- an id without its d lowest bits
unfoldable pub drop_bits : ℕ → ℕ → ℕ
drop_bits zero a = a
drop_bits (suc d) a = drop_bits d a / 2

-- two ids have the same d lowest bits: the prefix that a search has read at the depth d
unfoldable pub SamePrefix : ℕ → ℕ → ℕ → Type 0
SamePrefix zero a b = Unit {0}
SamePrefix (suc d) a b = SamePrefix d a b × (drop_bits d a % 2 ≡ drop_bits d b % 2)

-- the row c hangs under the row r on the side b: its id has the prefix that all ids under r have, and b for its next bit
pub record Child (key : ℕ → ℕ) (depth : ℕ → ℕ) (rows : ℕ) (r : ℕ) (b : ℕ) (c : ℕ) : Type 0 where
  pub row : c < rows
  pub deeper : depth c ≡ suc (depth r)
  pub prefix : SamePrefix (depth r) (key c) (key r)
  pub side : drop_bits (depth r) (key c) % 2 ≡ b

-- Each link is to a child; and 33 steps, one more than an id has bits, find the row of each id. So no id has two rows.
pub record Tree (key : ℕ → ℕ) (link : ℕ → ℕ → ℕ) (rows : ℕ) : Type 0 where
  pub depth : ℕ → ℕ
  pub root : depth 0 ≡ 0
  pub child : (r b : ℕ) → r < rows → b < 2 → (link r b ≡ 0 → ⊥) → Child key depth rows r b (link r b)
  pub found : (r : ℕ) → r < rows → search key link (key r) 33 0 (key r) ≡ some r

-- one row more, a leaf for the id under the row p on the side b
pub record Leaf (key : ℕ → ℕ) (link : ℕ → ℕ → ℕ) (rows : ℕ) (id p b : ℕ) (key' : ℕ → ℕ) (link' : ℕ → ℕ → ℕ) : Type 0 where
  pub keys : (r : ℕ) → r < rows → key' r ≡ key r
  pub new : key' rows ≡ id
  pub linked : link' p b ≡ rows
  pub ends : (c : ℕ) → c < 2 → link' rows c ≡ 0
  pub others : (r c : ℕ) → r < rows → c < 2 → (r ≡ p → c ≡ b → ⊥) → link' r c ≡ link r c

-- no row has the id, and its leaf belongs under the row p on the side b: with it there, the rows are a tree again
pub record Place (key : ℕ → ℕ) (link : ℕ → ℕ → ℕ) (rows : ℕ) (id p b : ℕ) : Type 0 where
  pub row : p < rows
  pub side : b < 2
  pub new : (r : ℕ) → r < rows → key r ≡ id → ⊥
  pub grows : (key' : ℕ → ℕ) (link' : ℕ → ℕ → ℕ) → Leaf key link rows id p b key' link' → Tree key' link' (suc rows)
