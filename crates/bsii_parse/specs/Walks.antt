-- What the walks over a file's records know of it.
use Rattle.std.specs.Prelude.{◌≡◌, ℕ, suc, ◌+◌, ◌/◌, ◌≤◌, ◌<◌, Bool, List, [], ◌∷◌, ◌++◌, map, length, drop, Ok, Err, Result as Outcome}
use Rattle.std.proofs.Math.Option
use Rattle.std.proofs.Math.Option.{Option, some}
use Rattle.bsii_format.specs.Reader.{Result, ok, fault}
use Rattle.bsii_format.specs.Prototypes.{Prototype, fields_parser}
use Rattle.bsii_format.specs.Blocks.{DataBlock, find_by}
use Rattle.bsii_format.specs.File.{Record, prototype, block, defining, carrying, head_parser, record_bytes, Records, records_from, BsiiFile, length_limit, parse}
use Rattle.bsii_format.specs.Calls.{Placed, placed, placed_records, cons_prototype, prototypes_in}
use Rattle.bsii_derived.specs.Index.{IndexRecord, index_from, index_of, agreeing}
use Rattle.bsii_string.specs.Answers.{fault_is}
use Rattle.bsii_string.specs.declared.answers.Refusal.{Refusal}
use Rattle.bsii_prototype.specs.declared.answers.Counted.{Counted}
use Rattle.bsii_prototype.specs.Answers.{count_of}
use Rattle.bsii_block.specs.Blocks.{DefinedAt, Assured}
use Rattle.bsii_table.specs.Rows.{Row, lookup, Rows}
use Rattle.bsii_table.specs.Relation.{Represents}
use Rattle.bsii_tree.specs.Table.{Linked, lookup_tree}
use Rattle.bsii_parse.specs.declared.walk.Progress.{Progress}
use Rattle.bsii_parse.specs.declared.walk.ReadStep.{ReadStep}
use Rattle.bsii_parse.specs.declared.walk.ReadStep.TheVariants.{Prototype as WentPrototype, Block as WentBlock, End}
use Rattle.bsii_parse.specs.declared.walk.Totals.{Totals}
use Rattle.bsii_parse.specs.declared.walk.Compared.{Compared}

-- ---- the reading walk

-- how many blocks there are among records
unfoldable pub block_count : List Record → ℕ
block_count [] = 0
block_count (prototype p ∷ l) = block_count l
block_count (block b ∷ l) = suc (block_count l)

-- and how many prototypes
unfoldable pub prototype_count : List Record → ℕ
prototype_count [] = 0
prototype_count (prototype p ∷ l) = suc (prototype_count l)
prototype_count (block b ∷ l) = prototype_count l

-- the records that a walk has passed, in front of those that the rest is read as
unfoldable pub behind : List Record → Result Records → Result Records
behind l (ok q at r) = ok (record { records = l ++ q.records; end = q.end }) at r
behind l (fault f) = fault f

-- the records of a version from a position on, with room for `rooms` ids and the definitions so far
abbrev pub records_at : ℕ → ℕ → List Prototype → ℕ → List ℕ → Result Records
records_at version rooms env at s = records_from version rooms (length (drop at s)) env at (drop at s)

-- ---- the table

-- definitions without their offsets
abbrev pub bare : List (Placed Prototype) → List Prototype
bare = map (λ (p : Placed Prototype). p.it)

-- The rows are the definitions so far, the last one first. `offsets` says which of two equal prototypes a row stands for.
pub record Keeps (s : List ℕ) (Valid : Type 0) (look : ℕ → Option Row) (rows : ℕ) (env : List (Placed Prototype)) : Type 0 where
  pub holds : Represents (DefinedAt s) Valid look rows (bare env)
  pub offsets : (id : ℕ) → Option.map (λ (r : Row). r.last) (look id) ≡ Option.map (λ (p : Placed Prototype). p.offset) (find_by (λ (p : Placed Prototype). p.it.id) id env)

-- the table while the file is read, a tree
abbrev pub Growing : List ℕ → List ℕ → ℕ → List (Placed Prototype) → Type 0
Growing s t rows env = Keeps s (Linked s t rows) (lookup_tree s t rows) rows env

-- the table once it is read, rows in order
abbrev pub Kept : List ℕ → List ℕ → ℕ → List (Placed Prototype) → Type 0
Kept s t rows env = Keeps s (Rows t rows) (lookup t rows) rows env

-- ---- a step of the reading walk

-- a list of definitions, with or without tests
pub record KnownList (s : List ℕ) (fields : ℕ) (known : Bool) (r : Outcome Counted Refusal) : Type 0 where
  pub counts : Assured known (fields_parser fields (drop fields s)) → r ≡ count_of (fields_parser fields (drop fields s))

-- what it needs: the file within the length limit, a position in it, the table's tree, with no more rows than bytes passed
pub record Ready (s : List ℕ) (p : Progress) (t : List ℕ) : Type 0 where
  pub short : length s ≤ length_limit
  pub inside : p.at ≤ length s
  pub counted : p.blocks ≤ p.at
  pub defined : p.prototypes ≤ p.at
  pub rows : Linked s t p.rows
  pub few : p.rows ≤ p.at

-- how far the walk is behind the record i, which ends at n
abbrev pub past : Progress → Record → ℕ → ℕ → Progress
past p i n rows = record { at = n; rows = rows; blocks = p.blocks + block_count (i ∷ []); prototypes = p.prototypes + prototype_count (i ∷ []) }

-- how it goes on there: behind a block with the definition that was in force for it
pub data Goes (env : List (Placed Prototype)) (q : Progress) : Record → ReadStep → Type 0 where
  behind_prototype : {p : Prototype} → Goes env q (prototype p) (WentPrototype q)
  behind_block : {b : DataBlock} (p : Placed Prototype) → find_by (λ (x : Placed Prototype). x.it.id) b.prototype_id env ≡ some p
      → Goes env q (block b) (WentBlock q (record { offset = p.offset; fields = length p.it.fields }))

-- for the definitions that the table holds: the records from here on are i, which ends at n, and those from there on, and the table holds the definitions
-- with the record's
pub record PastRecord (version : ℕ) (s : List ℕ) (p : Progress) (t : List ℕ) (env : List (Placed Prototype)) (i : Record) (n rows : ℕ) (t' : List ℕ) : Type 0 where
  pub records : records_at version (length t / 3) (bare env) p.at s ≡ behind (i ∷ []) (records_at version (length t / 3) (bare (cons_prototype p.at i env)) n s)
  pub on : p.at < n
  pub inside : n ≤ length s
  pub long : n ≡ p.at + length (record_bytes i)
  pub kept : Growing s t' rows (cons_prototype p.at i env)
  pub size : length t' ≡ length t

-- a record was passed; or the records from here on are the end record; or they are refused
pub data StepMeets (version : ℕ) (s : List ℕ) (p : Progress) (t : List ℕ) (env : List (Placed Prototype)) : Outcome ReadStep Refusal → List ℕ → Type 0 where
  passed : (i : Record) {n rows : ℕ} {r : ReadStep} {t' : List ℕ} → PastRecord version s p t env i n rows t' → Goes env (past p i n rows) i r → StepMeets version s p t env (Ok r) t'
  ended : {l : List ℕ} {n : ℕ} → records_at version (length t / 3) (bare env) p.at s ≡ ok (record { records = []; end = l }) n (drop n s) → StepMeets version s p t env (Ok (End n)) t
  refused : {f : Refusal} {t' : List ℕ} → records_at version (length t / 3) (bare env) p.at s ≡ fault (fault_is f) → length t' ≡ length t → StepMeets version s p t env (Err f) t'

-- for every file, or for one that is known to be accepted
pub record Stepped (version : ℕ) (s : List ℕ) (p : Progress) (t : List ℕ) (known : Bool) (r : Outcome ReadStep Refusal) (t' : List ℕ) : Type 0 where
  pub steps : (env : List (Placed Prototype)) → Growing s t p.rows env → Assured known (records_at version (length t / 3) (bare env) p.at s) → StepMeets version s p t env r t'

-- the same where the head is read already: a prototype's definitions start at `fields`, in every version, a block's id at `at`
pub record Defining (s : List ℕ) (p : Progress) (t : List ℕ) (known : Bool) (id fields : ℕ) (r : Outcome ReadStep Refusal) (t' : List ℕ) : Type 0 where
  pub steps : (version : ℕ) (env : List (Placed Prototype)) → Growing s t p.rows env → Assured known (records_at version (length t / 3) (bare env) p.at s)
      → (name : List ℕ) → head_parser p.at (drop p.at s) ≡ ok (defining id name) fields (drop fields s) → StepMeets version s p t env r t'

pub record Carrying (version : ℕ) (s : List ℕ) (p : Progress) (t : List ℕ) (known : Bool) (id at : ℕ) (r : Outcome ReadStep Refusal) : Type 0 where
  pub steps : (env : List (Placed Prototype)) → Growing s t p.rows env → Assured known (records_at version (length t / 3) (bare env) p.at s)
      → head_parser p.at (drop p.at s) ≡ ok (carrying id) at (drop at s) → StepMeets version s p t env r t

-- ---- the whole walk from `start` on, and the whole file: the table holds the definitions of what was read

-- what the walk has found of records of a version that end at n
abbrev pub totals_of : ℕ → ℕ → List Record → ℕ → Totals
totals_of version rows l n = record { version = version; rows = rows; blocks = block_count l; prototypes = prototype_count l; next = n }

-- the index records of records that stand from an offset on
abbrev pub index_at : ℕ → List Record → List IndexRecord
index_at start l = index_from [] (placed (λ r. length (record_bytes r)) start l)

-- and how many index records of its blocks stand at the front of an index
abbrev pub compared_as : Totals → ℕ → Outcome Compared Refusal
compared_as t n = Ok (record { totals = t; agreed = n })

-- with an index of the bytes i, in numbers of w bytes, held against the blocks
pub data Compares (version : ℕ) (s : List ℕ) (start : ℕ) (t i : List ℕ) (w : ℕ) : Outcome Compared Refusal → List ℕ → Type 0 where
  walked : (q : Records) {rows n : ℕ} {t' : List ℕ} → records_at version (length t / 3) [] start s ≡ ok q n (drop n s)
      → Growing s t' rows (prototypes_in (placed (λ r. length (record_bytes r)) start q.records) []) → length t' ≡ length t
      → Compares version s start t i w (compared_as (totals_of version rows q.records n) (agreeing w (index_at start q.records) i)) t'
  stopped : {f : Refusal} {t' : List ℕ} → records_at version (length t / 3) [] start s ≡ fault (fault_is f) → length t' ≡ length t
      → Compares version s start t i w (Err f) t'

pub data ComparesFile (s t i : List ℕ) (w : ℕ) : Outcome Compared Refusal → List ℕ → Type 0 where
  compared : (f : BsiiFile) {rows n : ℕ} {t' : List ℕ} → parse (length t) s ≡ ok f n (drop n s) → Growing s t' rows (prototypes_in (placed_records f) [])
      → length t' ≡ length t → ComparesFile s t i w (compared_as (totals_of f.header.value rows f.records n) (agreeing w (index_of f) i)) t'
  uncompared : {f : Refusal} {t' : List ℕ} → parse (length t) s ≡ fault (fault_is f) → length t' ≡ length t → ComparesFile s t i w (Err f) t'

-- `Table t' rows env` is what the table holds then
pub data ReadAs (Table : List ℕ → ℕ → List (Placed Prototype) → Type 0) (s : List ℕ) (t : List ℕ) : Outcome Totals Refusal → List ℕ → Type 0 where
  read : (f : BsiiFile) {rows n : ℕ} {t' : List ℕ} → parse (length t) s ≡ ok f n (drop n s) → Table t' rows (prototypes_in (placed_records f) [])
      → length t' ≡ length t → ReadAs Table s t (Ok (totals_of f.header.value rows f.records n)) t'
  unread : {f : Refusal} {t' : List ℕ} → parse (length t) s ≡ fault (fault_is f) → length t' ≡ length t → ReadAs Table s t (Err f) t'

abbrev pub ReadTree : List ℕ → List ℕ → Outcome Totals Refusal → List ℕ → Type 0
ReadTree s t r t' = ReadAs (Growing s) s t r t'

abbrev pub ReadFile : List ℕ → List ℕ → Outcome Totals Refusal → List ℕ → Type 0
ReadFile s t r t' = ReadAs (Kept s) s t r t'
