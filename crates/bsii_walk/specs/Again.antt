-- What a second walk gives for a file that was read: contracts of functions that check nothing, for inputs that were accepted.
use Rattle.std.specs.Prelude.{◌≡◌, ℕ, ◌+◌, Bool, List, ◌∷◌, length, drop, Some, None, Option as Answer}
use Rattle.std.proofs.Math.Option.{some}
use Rattle.bsii_format.specs.Reader.{ok, same, ◌>>=◌}
use Rattle.bsii_format.specs.Strings.{id_parser}
use Rattle.bsii_format.specs.Prototypes.{Prototype}
use Rattle.bsii_format.specs.Blocks.{DataValue, DataBlock, get_prototype, data_values_parser}
use Rattle.bsii_format.specs.File.{Record, prototype, block, Head, ending, defining, carrying, head_parser, end, more, record_parser}
use Rattle.bsii_prototype.specs.Entries.{marked_parser}
use Rattle.bsii_table.specs.Relation.{Entered}
use Rattle.bsii_block.specs.Blocks.{DefinedAt}
use Rattle.bsii_walk.specs.declared.records.RecordKind.{RecordKind}
use Rattle.bsii_walk.specs.declared.records.RecordKind.TheVariants.{Defines, Carries}
use Rattle.bsii_walk.specs.declared.records.Block.{Block}
use Rattle.bsii_walk.specs.declared.records.Met.{Met}
use Rattle.bsii_walk.specs.declared.records.Met.TheVariants.{Prototype as MetPrototype, Block as MetBlock}

-- the name of a prototype that stands at an offset
pub record NameIs (s : List ℕ) (o : ℕ) (name : List ℕ) (r : Bool) : Type 0 where
  pub is : (p : Prototype) → DefinedAt s o p → r ≡ same name p.name

-- ---- how a record begins

abbrev pub kind_of : Head → ℕ → Answer RecordKind
kind_of ending n = None
kind_of (defining id name) n = Some (Defines id)
kind_of (carrying id) n = Some (Carries id n)

pub record KindAt (s : List ℕ) (at : ℕ) (r : Answer RecordKind) : Type 0 where
  pub is : (h : Head) (n : ℕ) (t : List ℕ) → head_parser at (drop at s) ≡ ok h n t → r ≡ kind_of h n

-- behind a record number of zero
pub record MarkAt (s : List ℕ) (at : ℕ) (r : Answer RecordKind) : Type 0 where
  pub is : (h : Head) (n : ℕ) (t : List ℕ) → marked_parser at (drop at s) ≡ ok h n t → r ≡ kind_of h n

-- ---- records: `env` is the definitions so far, `last` all definitions of the file

pub record PrototypeMet (s t : List ℕ) (rows : ℕ) (env last : List Prototype) (p : Prototype) (n : ℕ) (r : Answer ℕ) : Type 0 where
  pub met : r ≡ Some n
  pub entered : Entered (DefinedAt s) t rows (p ∷ env) last

pub record PrototypeAgain (s : List ℕ) (at : ℕ) (t : List ℕ) (rows id : ℕ) (r : Answer ℕ) (t' : List ℕ) : Type 0 where
  pub meets : (env last : List Prototype) → Entered (DefinedAt s) t rows env last → (p : Prototype) (h : DefinedAt s at p) → p.id ≡ id → PrototypeMet s t' rows env last p h.next r
  pub size : length t' ≡ length t

pub record BlockMet (s : List ℕ) (at id_at n : ℕ) (p q : Prototype) (r : Answer Block) : Type 0 where
  pub in_force : ℕ
  pub last : ℕ
  pub met : r ≡ Some (record { at = at; id = id_at; under = in_force; last = last; next = n })
  pub under : DefinedAt s in_force p
  pub named : DefinedAt s last q

pub record BlockAgain (version : ℕ) (s : List ℕ) (at id_at : ℕ) (t : List ℕ) (rows id : ℕ) (r : Answer Block) : Type 0 where
  pub meets : (env last : List Prototype) → Entered (DefinedAt s) t rows env last → (p q : Prototype) → get_prototype id env ≡ some p → get_prototype id last ≡ some q
      → (v : List DataValue) (n : ℕ) (u : List ℕ) → (id_parser >>= (λ i. data_values_parser version p.fields)) id_at (drop id_at s) ≡ ok v n u
      → BlockMet s at id_at n p q r

-- one record that was accepted under the definitions so far, up to n
pub data Meets (s : List ℕ) (at rows : ℕ) (env last : List Prototype) (n : ℕ) : Record → Answer Met → List ℕ → Type 0 where
  a_prototype_law : (p : Prototype) {t : List ℕ} {m : ℕ} → PrototypeMet s t rows env last p n (Some m) → Meets s at rows env last n (prototype p) (Some (MetPrototype m)) t
  a_block_law : (b : DataBlock) {t : List ℕ} {x : Block} (p q : Prototype) → get_prototype b.prototype_id env ≡ some p → get_prototype b.prototype_id last ≡ some q
      → BlockMet s at (at + length b.head) n p q (Some x) → Entered (DefinedAt s) t rows env last → Meets s at rows env last n (block b) (Some (MetBlock x)) t

pub record RecordAgain (version : ℕ) (s : List ℕ) (at : ℕ) (t : List ℕ) (rows : ℕ) (r : Answer Met) (t' : List ℕ) : Type 0 where
  pub meets : (env last : List Prototype) → Entered (DefinedAt s) t rows env last → (i : Record) (n : ℕ) → record_parser version env at (drop at s) ≡ ok (more i) n (drop n s)
      → ((id : ℕ) (p : Prototype) → get_prototype id env ≡ some p → (q : Prototype) × (get_prototype id last ≡ some q)) → Meets s at rows env last n i r t'
  pub ends : (env : List Prototype) (l : List ℕ) (n : ℕ) (u : List ℕ) → record_parser version env at (drop at s) ≡ ok (end l) n u → (r ≡ None) × (t' ≡ t)
  pub size : length t' ≡ length t
