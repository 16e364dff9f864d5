-- What the look-ups know of a file that was read.
use Rattle.std.specs.Prelude.{◌≡◌, ℕ, ◌+◌, List, length, Ok, Err, Result as Outcome, Option as Answer}
use Rattle.std.proofs.Math.Option.{Option, none, some, map}
use Rattle.bsii_format.specs.Prototypes.{Prototype}
use Rattle.bsii_format.specs.Replies.{gives, absent}
use Rattle.bsii_format.specs.Reader.{ok, fault}
use Rattle.bsii_format.specs.Blocks.{DataBlock, find_by}
use Rattle.bsii_format.specs.File.{BsiiFile, parse, prototypes_of}
use Rattle.bsii_format.specs.Calls.{Placed, blocks_of, prototype_answer, block_answer, or_absent}
use Rattle.bsii_string.specs.Answers.{fault_is, refused_at}
use Rattle.bsii_string.specs.declared.answers.Refusal.{Refusal}
use Rattle.bsii_block.specs.Blocks.{DefinedAt}
use Rattle.bsii_parse.specs.Walks.{Kept}
use Rattle.bsii_walk.specs.Seek.{BlockIs, seek_in}
use Rattle.bsii_walk.specs.declared.records.Block.{Block}
use Rattle.bsii_walk.specs.declared.seek.Found.{Found}
use Rattle.bsii_file.specs.Answers.{prototype_is, block_is}
use Rattle.bsii_file.specs.declared.blocks.BlockHead.{BlockHead}
use Rattle.bsii_file.specs.declared.prototypes.PrototypeHead.{PrototypeHead}

-- the last definition of an id, with its offset, where `env` is all definitions, the last one first
abbrev pub last_definition : ℕ → List (Placed Prototype) → Option (Placed Prototype)
last_definition = find_by (λ (p : Placed Prototype). p.it.id)

-- of any prototype that stands at the offset: its name's place and its number of fields
pub record PrototypeAt (s : List ℕ) (o : ℕ) (r : Outcome PrototypeHead Refusal) : Type 0 where
  pub answers : (p : Prototype) → DefinedAt s o p → r ≡ Ok (record { name = o + 13; name_size = length p.name; fields = length p.fields })

-- of any definitions that the table holds: what the prototype call answers for the last one of the id
pub record LastPrototype (s t : List ℕ) (rows id : ℕ) (r : Outcome PrototypeHead Refusal) : Type 0 where
  pub answers : (env : List (Placed Prototype)) → Kept s t rows env → prototype_is r ≡ or_absent (map prototype_answer (last_definition id env))

-- of a file that is accepted: the wanted block number k, in the version that it was read in, or none; or the file's refusal
pub data SoughtIn (words : ℕ) (s : List ℕ) (wanted : Answer (List ℕ)) (k : ℕ) : Outcome (ℕ × Found) Refusal → Type 0 where
  there : (f : BsiiFile) {n : ℕ} {u : List ℕ} {version : ℕ} {b : Found} (x : Placed DataBlock) → parse words s ≡ ok f n u
      → BlockIs version s (prototypes_of f.records) b.block x
      → seek_in (prototypes_of f.records) wanted 0 k (blocks_of f) ≡ some (record { number = b.number; of = x }) → SoughtIn words s wanted k (Ok (version, b))
  nowhere : (f : BsiiFile) {n : ℕ} {u : List ℕ} → parse words s ≡ ok f n u → seek_in (prototypes_of f.records) wanted 0 k (blocks_of f) ≡ none
      → SoughtIn words s wanted k (Err (refused_at absent 0))
  unread : {f : Refusal} → parse words s ≡ fault (fault_is f) → SoughtIn words s wanted k (Err f)

-- of a block that the search found: what the block call answers for it
pub record BlockAnswered (s : List ℕ) (b : Block) (r : Outcome BlockHead Refusal) : Type 0 where
  pub answers : (version : ℕ) (last : List Prototype) (x : Placed DataBlock) → BlockIs version s last b x → block_is r ≡ gives (block_answer x)
