-- The next block of a file that was read, for any walk over its records that stands in front of it.
use Rattle.std.specs.Prelude.{◌≡◌, ℕ, ◌+◌, ◌≤◌, ◌<◌, List, [], ◌∷◌, length, drop, Some, None, Option as Answer}
use Rattle.std.proofs.Math.Option.{some}
use Rattle.bsii_format.specs.Reader.{ok}
use Rattle.bsii_format.specs.Strings.{id_parser}
use Rattle.bsii_format.specs.Prototypes.{Prototype}
use Rattle.bsii_format.specs.Blocks.{DataBlock, get_prototype, data_values_parser}
use Rattle.bsii_format.specs.File.{Record, carrying, head_parser, record_bytes, define_all, length_limit}
use Rattle.bsii_format.specs.Calls.{Placed, placed, blocks_in}
use Rattle.bsii_table.specs.Relation.{Entered}
use Rattle.bsii_block.specs.Blocks.{DefinedAt}
use Rattle.bsii_parse.specs.Walks.{records_at}
use Rattle.bsii_walk.specs.declared.records.Block.{Block}

-- the blocks of records that stand from an offset on
abbrev pub blocks_from : ℕ → List Record → List (Placed DataBlock)
blocks_from at l = blocks_in (placed (λ r. length (record_bytes r)) at l)

-- The walk at an offset: `env` is the definitions so far, `rest` the records from here on, which are accepted; the table follows.
pub record WalkAt (version : ℕ) (s : List ℕ) (rooms rows : ℕ) (last : List Prototype) (t : List ℕ) (at : ℕ)
    (env : List Prototype) (rest : List Record) : Type 0 where
  pub end : List ℕ
  pub n : ℕ
  pub reads : records_at version rooms env at s ≡ ok (record { records = rest; end = end }) n (drop n s)
  pub entered : Entered (DefinedAt s) t rows env last
  pub lasts : last ≡ define_all rest env

-- some walk stands here
pub record Stood (version : ℕ) (s : List ℕ) (at : ℕ) (t : List ℕ) (rows : ℕ) : Type 0 where
  pub short : length s ≤ length_limit
  pub inside : at ≤ length s
  pub rooms : ℕ
  pub last : List Prototype
  pub env : List Prototype
  pub rest : List Record
  pub standing : WalkAt version s rooms rows last t at env rest

-- a block in its parts: under the definition in force p, named by the last one q
pub record BlockIs (version : ℕ) (s : List ℕ) (last : List Prototype) (b : Block) (x : Placed DataBlock) : Type 0 where
  pub place : b.at ≡ x.offset
  pub p : Prototype
  pub q : Prototype
  pub in_force : DefinedAt s b.under p
  pub named : DefinedAt s b.last q
  pub last_is : get_prototype x.it.prototype_id last ≡ some q
  pub head : head_parser b.at (drop b.at s) ≡ ok (carrying x.it.prototype_id) b.id (drop b.id s)
  pub id_place : b.id ≡ x.offset + length x.it.head
  pub id : id_parser b.id (drop b.id s) ≡ ok x.it.id.value (b.id + length x.it.id.raw) (drop (b.id + length x.it.id.raw) s)
  pub values : data_values_parser version p.fields (b.id + length x.it.id.raw) (drop (b.id + length x.it.id.raw) s) ≡ ok x.it.values b.next (drop b.next s)

-- b is the first block among `rest` from `at` on; the walk stands behind it
pub record Ahead (version : ℕ) (s : List ℕ) (rooms rows : ℕ) (last : List Prototype) (at : ℕ) (rest : List Record) (b : Block) (t : List ℕ) : Type 0 where
  pub block : Placed DataBlock
  pub is : BlockIs version s last b block
  pub env : List Prototype
  pub behind : List Record
  pub standing : WalkAt version s rooms rows last t b.next env behind
  pub blocks : blocks_from at rest ≡ block ∷ blocks_from b.next behind
  pub ahead : at ≤ b.at
  pub later : b.at < b.next
  pub inside : b.next ≤ length s

-- or there is none, and the table serves one more walk over the file
abbrev pub NextIs : ℕ → List ℕ → ℕ → ℕ → List Prototype → ℕ → List Record → Answer Block → List ℕ → Type 0
NextIs version s rooms rows last at rest (Some b) t = Ahead version s rooms rows last at rest b t
NextIs version s rooms rows last at rest None t = (blocks_from at rest ≡ []) × Entered (DefinedAt s) t rows [] last

pub record NextBlock (version : ℕ) (s : List ℕ) (at : ℕ) (t : List ℕ) (rows : ℕ) (r : Answer Block) (t' : List ℕ) : Type 0 where
  pub next : (rooms : ℕ) (last env : List Prototype) (rest : List Record) → WalkAt version s rooms rows last t at env rest
      → NextIs version s rooms rows last at rest r t'
  pub size : length t' ≡ length t
