-- What the writers of records answer for records that were accepted.
use Rattle.std.specs.Prelude.{◌≡◌, ℕ, ◌+◌, ◌≤◌, ◌<◌, Bool, List, [], ◌∷◌, length, drop, Some, None, Option as Answer, Ok, Err, Result as Outcome}
use Rattle.std.proofs.Math.Option.{Option, some}
use Rattle.bsii_format.specs.Replies.{Reply, gives, refuses}
use Rattle.bsii_format.specs.Reader.{ok}
use Rattle.bsii_format.specs.Strings.{id_parser}
use Rattle.bsii_format.specs.Values.{Value}
use Rattle.bsii_format.specs.Prototypes.{ValuePrototype, Prototype}
use Rattle.bsii_format.specs.Blocks.{DataBlock, get_prototype, data_values_parser}
use Rattle.bsii_format.specs.File.{Record, define}
use Rattle.bsii_format.specs.BlockText.{joined, file_opening, closing, block_text, records_text}
use Rattle.bsii_string.specs.Answers.{fault_is}
use Rattle.bsii_string.specs.declared.answers.Refusal.{Refusal}
use Rattle.bsii_table.specs.Relation.{Entered}
use Rattle.bsii_block.specs.Blocks.{DefinedAt}
use Rattle.bsii_walk.specs.Seek.{WalkAt}
use Rattle.bsii_window.specs.Window.{Wrote}
use Rattle.bsii_write_value.specs.Lines.{lines}
use Rattle.bsii_write_value.specs.declared.values.Lines.{Lines}

-- ---- answers

-- a block's text, with the offset n behind it; or the refusal
abbrev pub StepIs : List ℕ → ℕ → Reply (List ℕ) → ℕ → Outcome (Answer Lines) Refusal → List ℕ → Type 0
StepIs old to (gives t) n (Ok (Some l)) new = (l.at ≡ n) × Wrote old to t l.to new
StepIs old to (refuses f) n (Err g) new = fault_is g ≡ f
StepIs old to (gives t) n (Err g) new = ⊥
StepIs old to (gives t) n (Ok None) new = ⊥
StepIs old to (refuses f) n (Ok (Some l)) new = ⊥
StepIs old to (refuses f) n (Ok None) new = ⊥

abbrev pub TextsAre : List ℕ → ℕ → Reply (List ℕ) → Outcome ℕ Refusal → List ℕ → Type 0
TextsAre old to (gives t) (Ok r) new = Wrote old to t r new
TextsAre old to (refuses f) (Err g) new = fault_is g ≡ f
TextsAre old to (gives t) (Err g) new = ⊥
TextsAre old to (refuses f) (Ok r) new = ⊥

-- a text that is written leaves the table fit for one more walk
abbrev pub Serves : List ℕ → ℕ → List Prototype → Outcome ℕ Refusal → List ℕ → Type 0
Serves s rows last (Ok r) t = Entered (DefinedAt s) t rows [] last
Serves s rows last (Err f) t = Unit {0}

-- ---- contracts

pub record PrototypeStep (s : List ℕ) (at : ℕ) (t : List ℕ) (rows id to : ℕ) (r : Answer Lines) (t' : List ℕ) : Type 0 where
  pub steps : (env last : List Prototype) → Entered (DefinedAt s) t rows env last → (p : Prototype) (h : DefinedAt s at p) → p.id ≡ id
      → (r ≡ lines h.next to) × Entered (DefinedAt s) t' rows (p ∷ env) last
  pub size : length t' ≡ length t

-- `text` gives the lines of a value: `value_text` in the text call
module _ (text : ValuePrototype → Value → Option (List ℕ)) where
  -- a block b at an offset, read up to e, where the table follows the walk
  pub record BlockStep (version : ℕ) (s : List ℕ) (offset : ℕ) (t : List ℕ) (rows prototype_id id : ℕ)
      (old : List ℕ) (to : ℕ) (r : Outcome (Answer Lines) Refusal) (new : List ℕ) : Type 0 where
    pub steps : (env last : List Prototype) → Entered (DefinedAt s) t rows env last → (p q : Prototype) → get_prototype prototype_id env ≡ some p → get_prototype prototype_id last ≡ some q
        → (b : DataBlock) → id ≡ offset + length b.head → (i : ℕ) → i ≡ id + length b.id.raw → id_parser id (drop id s) ≡ ok b.id.value i (drop i s)
        → (e : ℕ) → data_values_parser version p.fields i (drop i s) ≡ ok b.values e (drop e s)
        → StepIs old to (block_text text offset (some q) b) e r new
    pub size : length new ≡ length old

  -- `prints` tells of a block and the records behind it whether it is in the text: `every_block` in the text call
  module _ (prints : DataBlock → List Record → Bool) where
    -- The records `rest` from `at` on: the first one i is passed and its text x written; or there is none left; or their text is refused.
    pub data Stepped (version : ℕ) (s : List ℕ) (rooms rows : ℕ) (last : List Prototype) (at : ℕ) (env : List Prototype) (rest : List Record) (old : List ℕ) (to : ℕ) : Outcome (Answer Lines) Refusal → List ℕ → List ℕ → Type 0 where
      went : (i : Record) (l : List Record) {n r : ℕ} {t new : List ℕ} (x : List ℕ) → WalkAt version s rooms rows last t n (define i env) l → at < n
          → n ≤ length s
          → records_text text prints last at rest ≡ joined (gives x) (records_text text prints last n l) → Wrote old to x r new → Stepped version s rooms rows last at env rest old to (Ok (lines n r)) t new
      ended : {t new : List ℕ} → rest ≡ [] → new ≡ old → Entered (DefinedAt s) t rows env last → Stepped version s rooms rows last at env rest old to (Ok None) t new
      refused : {f : Refusal} {t new : List ℕ} → records_text text prints last at rest ≡ refuses (fault_is f) → Stepped version s rooms rows last at env rest old to (Err f) t new

    pub record RecordWritten (version : ℕ) (s : List ℕ) (at : ℕ) (t : List ℕ) (rows : ℕ) (old : List ℕ) (to : ℕ) (r : Outcome (Answer Lines) Refusal) (t' new : List ℕ) : Type 0 where
      pub steps : (rooms : ℕ) (last env : List Prototype) (rest : List Record) → WalkAt version s rooms rows last t at env rest → Stepped version s rooms rows last at env rest old to r t' new
      pub size : length new ≡ length old
      pub table_size : length t' ≡ length t

    pub record RecordsWritten (version : ℕ) (s : List ℕ) (start : ℕ) (t : List ℕ) (rows : ℕ) (old : List ℕ) (to : ℕ) (r : Outcome ℕ Refusal) (t' new : List ℕ) : Type 0 where
      pub writes : (rooms : ℕ) (last : List Prototype) (rest : List Record) → WalkAt version s rooms rows last t start [] rest
          → TextsAre old to (records_text text prints last start rest) r new × Serves s rows last r t'
      pub size : length new ≡ length old
      pub table_size : length t' ≡ length t

    -- the frame and the blocks, from the window's start on
    pub record BsiiWritten (version : ℕ) (s : List ℕ) (start : ℕ) (t : List ℕ) (rows : ℕ) (old : List ℕ) (r : Outcome ℕ Refusal) (t' new : List ℕ) : Type 0 where
      pub writes : (rooms : ℕ) (last : List Prototype) (rest : List Record) → WalkAt version s rooms rows last t start [] rest
          → TextsAre old 0x8000_0000_0000_0000 (joined (joined (gives file_opening) (records_text text prints last start rest)) (gives closing)) r new × Serves s rows last r t'
      pub size : length new ≡ length old
      pub table_size : length t' ≡ length t
