-- A file whose parts are marked: what the old save had, and what was inserted.
use Rattle.std.specs.Prelude.{ℕ, List, [], ◌∷◌}
use Rattle.bsii_format.specs.Reader.{Consumed}
use Rattle.bsii_format.specs.Strings.{Id}
use Rattle.bsii_format.specs.Prototypes.{ValuePrototype, Prototype}
use Rattle.bsii_format.specs.Blocks.{DataValue, DataBlock}
use Rattle.bsii_format.specs.File.{Record, prototype, block}

pub data Mark (A : Type 0) : Type 0 where
  old : A → Mark A
  inserted : A → Mark A

unfoldable pub unmark : {A : Type 0} → Mark A → A
unmark (old a) = a
unmark (inserted a) = a

unfoldable pub map_mark : {A B : Type 0} → (A → B) → Mark A → Mark B
map_mark f (old a) = old (f a)
map_mark f (inserted a) = inserted (f a)

-- all parts, and those that are left when the inserted ones are left out
unfoldable pub all : {A : Type 0} → List (Mark A) → List A
all [] = []
all (old a ∷ l) = a ∷ all l
all (inserted a ∷ l) = a ∷ all l

unfoldable pub olds : {A : Type 0} → List (Mark A) → List A
olds [] = []
olds (old a ∷ l) = a ∷ olds l
olds (inserted a ∷ l) = olds l

-- a prototype with marked definitions, and a block with marked values
pub record MarkedPrototype : Type 0 where
  pub head : List ℕ
  pub id : ℕ
  pub name : List ℕ
  pub fields : List (Mark (Consumed ValuePrototype))
  pub terminator : List ℕ

pub record MarkedBlock : Type 0 where
  pub head : List ℕ
  pub prototype_id : ℕ
  pub id : Consumed Id
  pub values : List (Mark DataValue)

pub data MarkedRecord : Type 0 where
  marked_prototype : MarkedPrototype → MarkedRecord
  marked_block : MarkedBlock → MarkedRecord

abbrev pub MarkedRecords : Type 0
MarkedRecords = List (Mark MarkedRecord)

abbrev pub new_prototype : MarkedPrototype → Prototype
new_prototype p = record { head = p.head; id = p.id; name = p.name; fields = all p.fields; terminator = p.terminator }

abbrev pub old_prototype : MarkedPrototype → Prototype
old_prototype p = record { head = p.head; id = p.id; name = p.name; fields = olds p.fields; terminator = p.terminator }

abbrev pub new_block : MarkedBlock → DataBlock
new_block b = record { head = b.head; prototype_id = b.prototype_id; id = b.id; values = all b.values }

abbrev pub old_block : MarkedBlock → DataBlock
old_block b = record { head = b.head; prototype_id = b.prototype_id; id = b.id; values = olds b.values }

abbrev pub new_record : MarkedRecord → Record
new_record (marked_prototype p) = prototype (new_prototype p)
new_record (marked_block b) = block (new_block b)

abbrev pub old_record : MarkedRecord → Record
old_record (marked_prototype p) = prototype (old_prototype p)
old_record (marked_block b) = block (old_block b)

-- the records with all parts, and without the inserted ones
unfoldable pub new_records : MarkedRecords → List Record
new_records [] = []
new_records (m ∷ l) = new_record (unmark m) ∷ new_records l

unfoldable pub old_records : MarkedRecords → List Record
old_records [] = []
old_records (old r ∷ l) = old_record r ∷ old_records l
old_records (inserted r ∷ l) = old_records l

-- a file in which nothing was inserted
unfoldable pub as_old : {A : Type 0} → List A → List (Mark A)
as_old [] = []
as_old (a ∷ l) = old a ∷ as_old l

unfoldable pub mark_prototype : Prototype → MarkedPrototype
mark_prototype p = record { head = p.head; id = p.id; name = p.name; fields = as_old p.fields; terminator = p.terminator }

unfoldable pub mark_block : DataBlock → MarkedBlock
mark_block b = record { head = b.head; prototype_id = b.prototype_id; id = b.id; values = as_old b.values }

unfoldable pub mark_record : Record → MarkedRecord
mark_record (prototype p) = marked_prototype (mark_prototype p)
mark_record (block b) = marked_block (mark_block b)

unfoldable pub mark_records : List Record → MarkedRecords
mark_records [] = []
mark_records (r ∷ l) = old (mark_record r) ∷ mark_records l
