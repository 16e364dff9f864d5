-- The k-th block of a file that was read, of all or of those under a prototype name.
use Rattle.std.specs.Prelude.{◌≡◌, ℕ, zero, suc, ◌≤◌, Bool, true, false, cond, List, [], ◌∷◌, length, Some, None, Option as Answer}
use Rattle.std.proofs.Math.Option.{Option, none, some}
use Rattle.bsii_format.specs.Reader.{same}
use Rattle.bsii_format.specs.Prototypes.{Prototype}
use Rattle.bsii_format.specs.Blocks.{DataBlock, get_prototype}
use Rattle.bsii_format.specs.File.{Record, length_limit}
use Rattle.bsii_format.specs.Calls.{Placed, is_named}
use Rattle.bsii_block.specs.Blocks.{DefinedAt}
pub use Rattle.bsii_walk.specs.Cursor.{blocks_from, WalkAt, BlockIs}
use Rattle.bsii_walk.specs.declared.seek.Found.{Found}

-- ---- the search, over the blocks in order

-- a block's number, and the block
pub record Numbered : Type 0 where
  pub number : ℕ
  pub of : Placed DataBlock

-- every block, or those under a name
abbrev pub is_wanted : List Prototype → Answer (List ℕ) → DataBlock → Bool
is_wanted last None b = true
is_wanted last (Some name) b = is_named name (get_prototype b.prototype_id last)

-- the wanted block itself, or one wanted block fewer to pass
unfoldable pub pass_over : ℕ → Option Numbered → (ℕ → Option Numbered) → Option Numbered
pass_over zero found more = found
pass_over (suc left) found more = more left

unfoldable pub seek_in : List Prototype → Answer (List ℕ) → ℕ → ℕ → List (Placed DataBlock) → Option Numbered
seek_in last wanted number left [] = none
seek_in last wanted number left (b ∷ l) =
    cond (is_wanted last wanted b.it) (pass_over left (some (record { number = number; of = b })) (λ m. seek_in last wanted (suc number) m l)) (seek_in last wanted (suc number) left l)

-- ---- what the functions know

-- the same of a block's last definition
abbrev pub names : Answer (List ℕ) → Prototype → Bool
names None q = true
names (Some name) q = same name q.name

pub record Wants (s : List ℕ) (o : ℕ) (wanted : Answer (List ℕ)) (r : Bool) : Type 0 where
  pub is : (q : Prototype) → DefinedAt s o q → r ≡ names wanted q

-- a block that is wanted or not, with n of the wanted ones to pass: what is left of them, or none if it is the one
abbrev pub count_of : Bool → ℕ → Answer ℕ
count_of false left = Some left
count_of true zero = None
count_of true (suc left) = Some left

pub record Counts (s : List ℕ) (o : ℕ) (wanted : Answer (List ℕ)) (left : ℕ) (r : Answer ℕ) : Type 0 where
  pub is : (q : Prototype) → DefinedAt s o q → r ≡ count_of (names wanted q) left

-- a file that was read, with its definitions in the table
pub record Readable (version : ℕ) (s : List ℕ) (start : ℕ) (t : List ℕ) (rows : ℕ) : Type 0 where
  pub short : length s ≤ length_limit
  pub inside : start ≤ length s
  pub rooms : ℕ
  pub last : List Prototype
  pub rest : List Record
  pub standing : WalkAt version s rooms rows last t start [] rest

-- the whole search
pub data Sought (version : ℕ) (s : List ℕ) (last : List Prototype) (o : Option Numbered) : Answer Found → Type 0 where
  sought : {f : Found} (x : Placed DataBlock) → BlockIs version s last f.block x → o ≡ some (record { number = f.number; of = x })
      → Sought version s last o (Some f)
  missed : o ≡ none → Sought version s last o None

pub record Seeks (version : ℕ) (s : List ℕ) (start : ℕ) (t : List ℕ) (rows : ℕ) (wanted : Answer (List ℕ)) (k : ℕ) (r : Answer Found) : Type 0 where
  pub seeks : (rooms : ℕ) (last : List Prototype) (rest : List Record) → WalkAt version s rooms rows last t start [] rest → Sought version s last (seek_in last wanted 0 k (blocks_from start rest)) r
