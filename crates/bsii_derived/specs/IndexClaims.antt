-- What is promised of an index: document 02, E1. Theorems about the calls' own definitions, for every number of bytes w that a number of the index has. There
-- are `256 ^ w` numbers of w bytes: where it matters, the file is no longer than that, which at the calls' own width every file within the length limit is.
use Rattle.std.specs.Prelude.{◌≡◌, ◌↔◌, ℕ, ◌*◌, ◌^◌, ◌≤◌, ◌<◌, List, length}
use Rattle.std.proofs.Math.Option.{some}
use Rattle.std.proofs.Math.ListN.{get_elem?}
use Rattle.bsii_format.specs.Replies.{gives}
use Rattle.bsii_format.specs.Reader.{ok}
use Rattle.bsii_format.specs.File.{BsiiFile, parse}
use Rattle.bsii_format.specs.Calls.{blocks_of, Reading, reading_call, field_call}
use Rattle.bsii_derived.specs.Index.{index_width, IndexRecord, index_of, index_bytes_of}
use Rattle.bsii_derived.specs.IndexCalls.{check_index_call, index_field_call, defines_once_call}

-- "one 12-byte record per block": 4 · w bytes for each block of a file that is read
abbrev pub OnePerBlock : Type 0
OnePerBlock = (w words : ℕ) (s : List ℕ) (f : BsiiFile) (at : ℕ) (r : List ℕ) → parse words s ≡ ok f at r → length (index_bytes_of w f) ≡ length (blocks_of f) * (4 * w)

-- check answers exactly if the file is read with this table and the index is the one that is written
abbrev pub ChecksExactly : Type 0
ChecksExactly =
    (w words : ℕ) (s i : List ℕ) → (check_index_call w words s i ≡ gives tt) ↔ ((f : BsiiFile) × (at : ℕ) × (r : List ℕ) × (parse words s ≡ ok f at r) × (i ≡ index_bytes_of w f))

-- ---- "A record is four three-byte little-endian numbers"

-- each of the four is a number of w bytes
pub record Held (w : ℕ) (e : IndexRecord) : Type 0 where
  pub offset : e.offset < 256 ^ w
  pub size : e.size < 256 ^ w
  pub prototype : e.prototype < 256 ^ w
  pub fields : e.fields < 256 ^ w

-- and so with every record, by its number k, of the index of the file s, if it is read
abbrev pub AllHeld : (w : ℕ) (s : List ℕ) → Type 0
AllHeld w s = (words : ℕ) (f : BsiiFile) (at : ℕ) (r : List ℕ) → parse words s ≡ ok f at r → (k : ℕ) (e : IndexRecord) → get_elem? (index_of f) k ≡ some e → Held w e

abbrev pub NumbersHeld : Type 0
NumbersHeld = (w : ℕ) (s : List ℕ) → length s ≤ 256 ^ w → AllHeld w s

-- ---- "for a checked index and a save with no prototype id defined twice it answers as the walk does with room in its table"

-- whatever block and name are asked for
abbrev pub LooksAsWalk : (w : ℕ) (s : List ℕ) → Type 0
LooksAsWalk w s =
    (words : ℕ) (i : List ℕ) → check_index_call w words s i ≡ gives tt → defines_once_call words s ≡ gives 1
    → (a : Reading) → reading_call words s ≡ gives a → (words' : ℕ) → 3 * a.prototypes ≤ words'
    → (k : ℕ) (name : List ℕ) → index_field_call w s i k name ≡ field_call words' s k name

abbrev pub AnswersAsWalk : Type 0
AnswersAsWalk = (w : ℕ) (s : List ℕ) → length s ≤ 256 ^ w → LooksAsWalk w s

-- ---- at the calls' own width: nothing is asked of the file's length, as none that is read is longer than there are numbers

pub record AtOwnWidth : Type 0 where
  pub held : (s : List ℕ) → AllHeld index_width s
  pub looks : (s : List ℕ) → LooksAsWalk index_width s
