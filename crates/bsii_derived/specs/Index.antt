-- An index beside a save: document 02, E1; FORMAT.md, "The index". Its numbers have w bytes: "A record is four three-byte little-endian numbers".
use Rattle.std.specs.Prelude.{ℕ, suc, ◌*◌, cond, List, [], ◌∷◌, ◌++◌, length, take, drop}
use Rattle.std.proofs.Math.Option.{Option, none, some}
use Rattle.bsii_format.specs.Reader.{Result, ok, fault, Reader, success, same, ◌>>=◌}
use Rattle.bsii_format.specs.Numbers.{number, le}
use Rattle.bsii_format.specs.Prototypes.{Prototype}
use Rattle.bsii_format.specs.Blocks.{DataBlock, find_by}
use Rattle.bsii_format.specs.File.{Record, prototype, block, record_bytes, BsiiFile}
use Rattle.bsii_format.specs.Calls.{Placed, placed_records, cons_prototype}

-- three bytes
abbrev pub index_width : ℕ
index_width = 3

-- ---- the records of a file: "one 12-byte record per block, no header"

-- "the block's offset, its length, the offset of the prototype in force when it was read, and that prototype's number of fields"
pub record IndexRecord : Type 0 where
  pub offset : ℕ
  pub size : ℕ
  pub prototype : ℕ
  pub fields : ℕ

-- the block at the offset `at`, under the prototype p
unfoldable pub index_record : ℕ → DataBlock → Placed Prototype → IndexRecord
index_record at b p = record { offset = at; size = length (record_bytes (block b)); prototype = p.offset; fields = length p.it.fields }

-- the definition in force for an id: env has those so far, the last one first
abbrev pub in_force : ℕ → List (Placed Prototype) → Option (Placed Prototype)
in_force = find_by (λ (p : Placed Prototype). p.it.id)

-- a block without a definition in force stands in no file that is read
unfoldable pub cons_under : ℕ → DataBlock → Option (Placed Prototype) → List IndexRecord → List IndexRecord
cons_under at b none l = l
cons_under at b (some p) l = index_record at b p ∷ l

unfoldable pub cons_index : List (Placed Prototype) → ℕ → Record → List IndexRecord → List IndexRecord
cons_index env at (prototype p) l = l
cons_index env at (block b) l = cons_under at b (in_force b.prototype_id env) l

unfoldable pub index_from : List (Placed Prototype) → List (Placed Record) → List IndexRecord
index_from env [] = []
index_from env (r ∷ l) = cons_index env r.offset r.it (index_from (cons_prototype r.offset r.it env) l)

unfoldable pub index_of : BsiiFile → List IndexRecord
index_of f = index_from [] (placed_records f)

-- what was read, if all of it was there
unfoldable pub whole : Result IndexRecord → Option IndexRecord
whole (ok r at l) = some r
whole (fault f) = none

module _ (w : ℕ) where
  -- ---- their bytes

  unfoldable pub index_record_bytes : IndexRecord → List ℕ
  index_record_bytes r = le w r.offset ++ (le w r.size ++ (le w r.prototype ++ le w r.fields))

  unfoldable pub index_bytes : List IndexRecord → List ℕ
  index_bytes [] = []
  index_bytes (r ∷ l) = index_record_bytes r ++ index_bytes l

  -- the bytes of the index of a file
  abbrev pub index_bytes_of : BsiiFile → List ℕ
  index_bytes_of f = index_bytes (index_of f)

  -- ---- record number k of any bytes

  unfoldable pub index_record_parser : Reader IndexRecord
  index_record_parser = do
    a ← number w
    b ← number w
    c ← number w
    d ← number w
    success (record { offset = a; size = b; prototype = c; fields = d })

  -- none "where the index has no such whole record"
  unfoldable pub record_at : List ℕ → ℕ → Option IndexRecord
  record_at i k = whole (index_record_parser (k * (4 * w)) (drop (k * (4 * w)) i))

  -- ---- any bytes against the records of a file

  -- how many records of the list stand at the front of the bytes i, up to the first that differs, is cut or is missing
  unfoldable pub agreeing : List IndexRecord → List ℕ → ℕ
  agreeing [] i = 0
  agreeing (r ∷ l) i = cond (same (index_record_bytes r) (take (4 * w) i)) (suc (agreeing l (drop (4 * w) i))) 0
