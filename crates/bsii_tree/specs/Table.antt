-- The table while a file is read: three words for a row, (offset of the id's last definition, link for a next bit 0, link for 1). The id is
-- read from the file, behind the offset. And what each function does with it, in terms of the first row that has an id.
use Rattle.std.specs.Prelude.{ℕ, suc, ◌+◌, ◌*◌, ◌≤◌, ◌<◌, ◌≡◌, cond, List, length, get_or, eqb, Some, None, Option as Answer}
use Rattle.std.proofs.Math.Option.{Option, none, some}
use Rattle.bsii_string.specs.NumbersAt.{number_at}
use Rattle.bsii_table.specs.Rows.{Row, offsets, lookup_from}
use Rattle.bsii_tree.specs.Tree.{Tree, Place}
use Rattle.bsii_tree.specs.declared.Slot.{Slot}
use Rattle.bsii_tree.specs.declared.Slot.TheVariants as slot

-- the id of the prototype at an offset of the file: behind its u32 zero and its mark
abbrev pub id_of : List ℕ → ℕ → ℕ
id_of f o = number_at 4 f (o + 5)

abbrev pub offset_of : List ℕ → ℕ → ℕ
offset_of t r = get_or t (3 * r) 0

abbrev pub key_of : List ℕ → List ℕ → ℕ → ℕ
key_of f t r = id_of f (offset_of t r)

abbrev pub link_of : List ℕ → ℕ → ℕ → ℕ
link_of t r b = get_or t (3 * r + 1 + b) 0

-- the last definition so far is in force
abbrev pub row_of : List ℕ → ℕ → Row
row_of t r = offsets (offset_of t r) (offset_of t r)

-- What a number of rows means while a file is read: the words are there, and a tree, and the ids are in the file. Callers carry it and never
-- look into it.
pub record Linked (f : List ℕ) (t : List ℕ) (rows : ℕ) : Type 0 where
  pub room : 3 * rows ≤ length t
  pub tree : Tree (key_of f t) (link_of t) rows
  pub inside : (r : ℕ) → r < rows → offset_of t r + 9 ≤ length f

abbrev pub lookup_tree : List ℕ → List ℕ → ℕ → ℕ → Option Row
lookup_tree f t rows id = lookup_from (key_of f t) (row_of t) 0 rows id

-- inside this crate only: the first word of an id's row, or the word of the link to which its row belongs
abbrev pub Sought : List ℕ → List ℕ → ℕ → ℕ → Slot → Type 0
Sought f t rows id (slot.Row at) = (r : ℕ) × (r < rows) × (at ≡ 3 * r) × (key_of f t r ≡ id)
Sought f t rows id (slot.Link at) = (p : ℕ) × (b : ℕ) × (at ≡ 3 * p + 1 + b) × Place (key_of f t) (link_of t) rows id p b

-- inside this crate only: a row without links behind the others
pub record Appended (t : List ℕ) (rows : ℕ) (offset : ℕ) (t' : List ℕ) : Type 0 where
  pub size : length t' ≡ length t
  pub kept : (n : ℕ) → n < 3 * rows → get_or t' n 0 ≡ get_or t n 0
  pub here : offset_of t' rows ≡ offset
  pub ends : (b : ℕ) → b < 2 → link_of t' rows b ≡ 0

-- the number of rows with a row for an id that had this one, or none
abbrev pub rows_with : ℕ → Option Row → ℕ
rows_with rows none = suc rows
rows_with rows (some r) = rows

-- the id has a row with this offset, and every other id what it had
pub record Puts (f : List ℕ) (t : List ℕ) (rows : ℕ) (id : ℕ) (offset : ℕ) (t' : List ℕ) (rows' : ℕ) : Type 0 where
  pub valid : Linked f t' rows'
  pub size : length t' ≡ length t
  pub count : rows' ≡ rows_with rows (lookup_tree f t rows id)
  pub looks : (x : ℕ) → lookup_tree f t' rows' x ≡ cond (eqb x id) (some (offsets offset offset)) (lookup_tree f t rows x)

-- a new id, no room for a row, and the table as it was
pub record NoRoom (f : List ℕ) (t : List ℕ) (rows : ℕ) (id : ℕ) (t' : List ℕ) : Type 0 where
  pub new : lookup_tree f t rows id ≡ none
  pub short : length t < 3 * rows + 3
  pub same : t' ≡ t

-- what `define` answered, and the table after it
pub data Defines (f : List ℕ) (t : List ℕ) (rows : ℕ) (id : ℕ) (offset : ℕ) : Answer ℕ → List ℕ → Type 0 where
  put : {rows' : ℕ} {t' : List ℕ} → Puts f t rows id offset t' rows' → Defines f t rows id offset (Some rows') t'
  full : {t' : List ℕ} → NoRoom f t rows id t' → Defines f t rows id offset None t'

-- a definition of the id stands at the offset, behind more bytes than there are rows: so a row's number fits in a word
pub record Named (f : List ℕ) (rows : ℕ) (id : ℕ) (offset : ℕ) : Type 0 where
  pub named : id_of f offset ≡ id
  pub inside : offset + 9 ≤ length f
  pub behind : rows ≤ offset
