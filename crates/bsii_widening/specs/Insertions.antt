-- Insertions and which of them are allowed: document 01, "One insertion is one of: (i) .. (ii) .. (iii) .."; document 02, E12.
use Rattle.std.specs.Prelude.{◌≡◌, ℕ, zero, suc, ◌≤◌, Bool, true, false, ◌||◌, not, List, [], ◌∷◌, length, take, get_or, T, eqb}
use Rattle.std.proofs.Math.Option.{none, some}
use Rattle.bsii_format.specs.Reader.{Consumed, same, WellFormed}
use Rattle.bsii_format.specs.Strings.{is_some}
use Rattle.bsii_format.specs.Types.{Numeric, float, float_vec2, float_vec3, float_vec4, float_vec7, float_vec8, int32, int32_vec3, uint32, uint16, int64, uint64, bool, enum}
use Rattle.bsii_format.specs.Values.{Element, nums, str, word, ident, Value, single, array}
use Rattle.bsii_format.specs.Prototypes.{EnumValue, ValuePrototype, Prototype, value_prototype_parser}
use Rattle.bsii_format.specs.Blocks.{DataValue, DataBlock, get_prototype, data_value_parser}
use Rattle.bsii_format.specs.File.{Record, prototype, block, more, record_parser, record_bytes, prototypes_of}
use Rattle.bsii_format.specs.Text.{enum_string}
use Rattle.bsii_widening.specs.Marks.{inserted, unmark, map_mark, MarkedPrototype, MarkedBlock, MarkedRecord, marked_prototype, marked_block, MarkedRecords, new_records, mark_prototype, mark_block}

-- ---- making an insertion

-- in front of the item number p, at the end where there are no more
unfoldable pub insert_at : {A : Type 0} → ℕ → A → List A → List A
insert_at zero x l = x ∷ l
insert_at (suc p) x [] = x ∷ []
insert_at (suc p) x (y ∷ l) = y ∷ insert_at p x l

unfoldable pub insert_if : {A : Type 0} → Bool → ℕ → A → List A → List A
insert_if true p x l = insert_at p x l
insert_if false p x l = l

abbrev pub into_prototype : Bool → ℕ → Consumed ValuePrototype → MarkedPrototype → MarkedPrototype
into_prototype c p d m = record { head = m.head; id = m.id; name = m.name; fields = insert_if c p (inserted d) m.fields; terminator = m.terminator }

abbrev pub into_block : Bool → ℕ → DataValue → MarkedBlock → MarkedBlock
into_block c p v b = record { head = b.head; prototype_id = b.prototype_id; id = b.id; values = insert_if c p (inserted v) b.values }

-- the definition d at position p of the prototype with the id n; the value v at "the matching spot" of a block of that id
abbrev pub into_record : ℕ → ℕ → Consumed ValuePrototype → DataValue → MarkedRecord → MarkedRecord
into_record n p d v (marked_prototype m) = marked_prototype (into_prototype (eqb n m.id) p d m)
into_record n p d v (marked_block b) = marked_block (into_block (eqb n b.prototype_id) p v b)

-- the number of the first block behind a record, where k is that of the first one from it on
abbrev pub next_block : MarkedRecord → ℕ → ℕ
next_block (marked_prototype m) k = k
next_block (marked_block b) k = suc k

-- v gives the value for each block by its number; the first block here has the number k
unfoldable pub insert_field : ℕ → ℕ → Consumed ValuePrototype → (ℕ → DataValue) → ℕ → MarkedRecords → MarkedRecords
insert_field n p d v k [] = []
insert_field n p d v k (m ∷ l) = map_mark (into_record n p d (v k)) m ∷ insert_field n p d v (next_block (unmark m) k) l

pub data Insertion : Type 0 where
  -- (i) the definition d at position p of the prototype with the id n, and the value v k in block number k, if it is of that id
  a_field : (n p : ℕ) (d : Consumed ValuePrototype) (v : ℕ → DataValue) → Insertion
  -- (ii) and (iii), in front of record number k: "the first and the end record included"
  a_prototype : (k : ℕ) (p : Prototype) → Insertion
  a_block : (k : ℕ) (b : DataBlock) → Insertion

unfoldable pub insert : Insertion → MarkedRecords → MarkedRecords
insert (a_field n p d v) M = insert_field n p d v 0 M
insert (a_prototype k p) M = insert_at k (inserted (marked_prototype (mark_prototype p))) M
insert (a_block k b) M = insert_at k (inserted (marked_block (mark_block b))) M

-- "The first insertion is made on the old save, each later one on the file that the one before left"
unfoldable pub insert_all : List Insertion → MarkedRecords → MarkedRecords
insert_all [] M = M
insert_all (i ∷ l) M = insert_all l (insert i M)

-- ---- "enum values stand in their lists"

unfoldable pub numeric_listed : List EnumValue → Numeric → List ℕ → Bool
numeric_listed enums enum l = is_some (enum_string (get_or l 0 0) enums)
numeric_listed enums float l = true
numeric_listed enums float_vec2 l = true
numeric_listed enums float_vec3 l = true
numeric_listed enums float_vec4 l = true
numeric_listed enums float_vec7 l = true
numeric_listed enums float_vec8 l = true
numeric_listed enums int32 l = true
numeric_listed enums int32_vec3 l = true
numeric_listed enums uint32 l = true
numeric_listed enums uint16 l = true
numeric_listed enums int64 l = true
numeric_listed enums uint64 l = true
numeric_listed enums bool l = true

unfoldable pub element_listed : List EnumValue → Element → Bool
element_listed enums (nums k l) = numeric_listed enums k l
element_listed enums (str s) = true
element_listed enums (word n) = true
element_listed enums (ident i) = true

abbrev pub ElementsListed : List EnumValue → List (Consumed Element) → Type 0
ElementsListed enums [] = Unit {0}
ElementsListed enums (e ∷ l) = T (element_listed enums e.value) × ElementsListed enums l

abbrev pub EnumListed : ValuePrototype → Value → Type 0
EnumListed d (single e) = T (element_listed d.enum_values e.value)
EnumListed d (array l) = ElementsListed d.enum_values l

abbrev pub EnumsListed : List (Consumed ValuePrototype) → List DataValue → Type 0
EnumsListed [] l = Unit {0}
EnumsListed (f ∷ fs) [] = Unit {0}
EnumsListed (f ∷ fs) (v ∷ l) = EnumListed f.value v.value × EnumsListed fs l

-- ---- what is allowed on the file M

unfoldable pub has_name : List ℕ → List (Consumed ValuePrototype) → Bool
has_name name [] = false
has_name name (f ∷ fs) = same name f.value.name || has_name name fs

-- (i) "a definition at any position of one prototype, its name none of that prototype's names"
pub record DefinitionAllowed (n p : ℕ) (d : Consumed ValuePrototype) (M : MarkedRecords) : Type 0 where
  pub of : Prototype
  pub defined : get_prototype n (prototypes_of (new_records M)) ≡ some of
  pub position : p ≤ length of.fields
  pub well_formed : WellFormed value_prototype_parser (some d.value) d.raw
  pub new_name : T (not (has_name d.value.name of.fields))

-- "An update may widen either version, the version unchanged": what is inserted is well-formed by the save's own
module _ (version : ℕ) where
  -- "with a well-formed value at the matching spot of every block of that id". A value of an unlisted type is not well-formed, so "listed"
  -- asks no more of a type that a block carries
  abbrev pub ValueAllowed : ℕ → Consumed ValuePrototype → DataValue → MarkedRecord → Type 0
  ValueAllowed n d v (marked_prototype m) = Unit {0}
  ValueAllowed n d v (marked_block b) = T (eqb n b.prototype_id) → WellFormed (data_value_parser version d.value.type_id) v v.raw × EnumListed d.value v.value

  abbrev pub ValuesAllowed : ℕ → Consumed ValuePrototype → (ℕ → DataValue) → ℕ → MarkedRecords → Type 0
  ValuesAllowed n d v k [] = Unit {0}
  ValuesAllowed n d v k (m ∷ l) = ValueAllowed n d (v k) (unmark m) × ValuesAllowed n d v (next_block (unmark m) k) l

  pub record FieldAllowed (n p : ℕ) (d : Consumed ValuePrototype) (v : ℕ → DataValue) (M : MarkedRecords) : Type 0 where
    pub definition : DefinitionAllowed n p d M
    pub values : ValuesAllowed n d v 0 M

  -- (ii) "a whole prototype under an id that the file defines nowhere"
  pub record PrototypeAllowed (p : Prototype) (M : MarkedRecords) : Type 0 where
    pub well_formed : WellFormed (record_parser version []) (more (prototype p)) (record_bytes (prototype p))
    pub undefined : get_prototype p.id (prototypes_of (new_records M)) ≡ none

  -- (iii) "a whole block after its prototype": well-formed under the definitions in front of record number k
  pub record BlockAllowed (k : ℕ) (b : DataBlock) (M : MarkedRecords) : Type 0 where
    pub well_formed : WellFormed (record_parser version (prototypes_of (take k (new_records M)))) (more (block b)) (record_bytes (block b))
    pub enums : (q : Prototype) → get_prototype b.prototype_id (prototypes_of (new_records M)) ≡ some q → EnumsListed q.fields b.values

  abbrev pub Allowed : Insertion → MarkedRecords → Type 0
  Allowed (a_field n p d v) M = FieldAllowed n p d v M
  Allowed (a_prototype k p) M = PrototypeAllowed p M
  Allowed (a_block k b) M = BlockAllowed k b M

  abbrev pub AllAllowed : List Insertion → MarkedRecords → Type 0
  AllAllowed [] M = Unit {0}
  AllAllowed (i ∷ l) M = Allowed i M × AllAllowed l (insert i M)

-- ---- "defines no prototype id twice"

unfoldable pub defines_id : ℕ → List Record → Bool
defines_id n [] = false
defines_id n (prototype p ∷ l) = eqb n p.id || defines_id n l
defines_id n (block b ∷ l) = defines_id n l

abbrev pub NoIdTwice : List Record → Type 0
NoIdTwice [] = Unit {0}
NoIdTwice (prototype p ∷ l) = T (not (defines_id p.id l)) × NoIdTwice l
NoIdTwice (block b ∷ l) = NoIdTwice l
