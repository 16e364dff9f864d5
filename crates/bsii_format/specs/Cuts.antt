-- What a refusal by 3 says of bytes that were cut off, which is what support reads from it: ours, beyond the words of document 02, E2; FORMAT.md, "Cut saves".
-- A table that has room has three words for each distinct prototype id.
use Rattle.std.specs.Prelude.{ℕ, ◌+◌, ◌-◌, ◌*◌, ◌≤◌, ◌<◌, ◌≡◌, List, ◌++◌, length, take}
use Rattle.bsii_format.specs.Replies.{malformed, Fault, short, gives, refuses}
use Rattle.bsii_format.specs.File.{length_limit}
use Rattle.bsii_format.specs.Calls.{Reading, reading_call, element_call}

-- A file that is refused by 3 at an offset, m bytes lacking, and what the reading call with the same table says of it with bytes t appended.
pub record Lacks (words : ℕ) (s : List ℕ) (at m : ℕ) : Type 0 where
  -- fewer than are lacking: refused at the same place, that many fewer lacking
  pub fewer : (t : List ℕ) → length t < m → length (s ++ t) ≤ length_limit → reading_call words (s ++ t) ≡ refuses (short at (m - length t))
  -- as many or more: refused by 3 only behind that place
  pub enough : (t : List ℕ) → m ≤ length t → (p k : ℕ) → reading_call words (s ++ t) ≡ refuses (short p k) → at < p

abbrev pub LackingIsExact : Type 0
LackingIsExact = (words : ℕ) (s : List ℕ) (at m : ℕ) → reading_call words s ≡ refuses (short at m) → Lacks words s at m

-- Another cause than 3 is not for want of bytes: appended to a file of four or more they change nothing of the refusal, within the limit.
abbrev pub OthersAreFinal : Type 0
OthersAreFinal = (words : ℕ) (s : List ℕ) (f : Fault) → reading_call words s ≡ refuses f → (f.cause ≡ malformed → ⊥) → 4 ≤ length s
    → (t : List ℕ) → length (s ++ t) ≤ length_limit → reading_call words (s ++ t) ≡ refuses f

-- A cut of an accepted save that keeps k bytes, at least four and not the whole end record, is refused by 3 with every table that has room, and no more
-- are lacking than were cut off up to the end record's end.
abbrev pub CutsAreShort : Type 0
CutsAreShort = (words : ℕ) (s : List ℕ) (a : Reading) → reading_call words s ≡ gives a → (room : ℕ) → 3 * a.prototypes ≤ room
    → (k : ℕ) → 4 ≤ k → k < a.next → (at : ℕ) × (m : ℕ) × (reading_call room (take k s) ≡ refuses (short at m)) × (k + m ≤ a.next)

-- The element call of a version, a type and an index, in the same way: a slice has no limit.
pub record ElementLacks (version t i : ℕ) (s : List ℕ) (at m : ℕ) : Type 0 where
  pub fewer : (u : List ℕ) → length u < m → element_call version t (s ++ u) i ≡ refuses (short at (m - length u))
  pub enough : (u : List ℕ) → m ≤ length u → (p k : ℕ) → element_call version t (s ++ u) i ≡ refuses (short p k) → at < p

abbrev pub ElementLackingIsExact : Type 0
ElementLackingIsExact = (version t i : ℕ) (s : List ℕ) (at m : ℕ) → element_call version t s i ≡ refuses (short at m) → ElementLacks version t i s at m
