-- A definition in force and the last one of the same field, in lists that were accepted.
use Rattle.std.specs.Prelude.{◌≡◌, ℕ, ◌-◌, ◌≤◌, ◌<◌, Bool, List, [], ◌∷◌, eqb, length, take, drop}
use Rattle.bsii_format.specs.Reader.{ok, Consumed}
use Rattle.bsii_format.specs.Prototypes.{ValuePrototype, Fields, fields_parser, enum_values_parser}
use Rattle.bsii_definition.specs.declared.pairs.Definition.{Definition}
use Rattle.bsii_definition.specs.declared.pairs.Pair.{Pair}
use Rattle.bsii_definition.specs.declared.pairs.Pair.TheVariants.{Both, Ends, Uneven}

-- the list of definitions l, which is read up to n, is f and the list that is read from `next` on
pub record Begins (s : List ℕ) (next : ℕ) (f : Consumed ValuePrototype) (l : Fields) (n : ℕ) (t : List ℕ) : Type 0 where
  pub rest : Fields
  pub more : fields_parser next (drop next s) ≡ ok rest n t
  pub fields : l.fields ≡ f ∷ rest.fields

-- a definition by its parts
abbrev pub definition : ℕ → ℕ → ℕ → Definition
definition type name nameEnd = record { type_id = type; name = name; name_end = nameEnd }

-- d has the type of the definition f, and says where its name and its enum list stand
pub record Describes (s : List ℕ) (d : Definition) (f : ValuePrototype) : Type 0 where
  pub typed : d.type_id ≡ f.type_id
  pub name : take (d.name_end - d.name) (drop d.name s) ≡ f.name
  pub end : ℕ
  pub enums : enum_values_parser d.type_id d.name_end (drop d.name_end s) ≡ ok f.enum_values end (drop end s)

-- its name, and so its enum list's start, stand in the file
pub record InFile (s : List ℕ) (d : Definition) : Type 0 where
  pub ordered : d.name ≤ d.name_end
  pub inside : d.name_end ≤ length s

-- the lists l in force and m of the last definition, read from two positions on
pub record Paired (s : List ℕ) (type_id : ℕ) (d : Definition) (next lastNext : ℕ) (l : Fields) (n : ℕ) (t : List ℕ) (m : Fields) (o : ℕ) (u : List ℕ) : Type 0 where
  pub in_force : Consumed ValuePrototype
  pub begins : Begins s next in_force l n t
  pub typed : type_id ≡ in_force.value.type_id
  pub last : Consumed ValuePrototype
  pub last_begins : Begins s lastNext last m o u
  pub describes : Describes s d last.value

pub data PairIs (s : List ℕ) (l : Fields) (n : ℕ) (t : List ℕ) (m : Fields) (o : ℕ) (u : List ℕ) : Pair → Type 0 where
  both : {type_id : ℕ} {last : Definition} {next lastNext : ℕ} → Paired s type_id last next lastNext l n t m o u
      → PairIs s l n t m o u (Both type_id last next lastNext)
  ends : l.fields ≡ [] → m.fields ≡ [] → PairIs s l n t m o u Ends
  last_longer : l.fields ≡ [] → {f : Consumed ValuePrototype} {fs : List (Consumed ValuePrototype)} → m.fields ≡ f ∷ fs → PairIs s l n t m o u Uneven
  last_shorter : {f : Consumed ValuePrototype} {fs : List (Consumed ValuePrototype)} → l.fields ≡ f ∷ fs → m.fields ≡ [] → PairIs s l n t m o u Uneven

-- for every input: the list in force goes on further down, and the name lies in the file
abbrev pub Inside : List ℕ → ℕ → Pair → Type 0
Inside s field (Both type_id last next lastNext) = (field < next) × (next ≤ length s) × (last.name ≤ last.name_end) × (last.name_end ≤ length s)
Inside s field Ends = Unit {0}
Inside s field Uneven = Unit {0}

pub record PairOf (s : List ℕ) (field lastField : ℕ) (r : Pair) : Type 0 where
  pub is : (l : Fields) (n : ℕ) (t : List ℕ) → fields_parser field (drop field s) ≡ ok l n t
      → (m : Fields) (o : ℕ) (u : List ℕ) → fields_parser lastField (drop lastField s) ≡ ok m o u → PairIs s l n t m o u r
  pub inside : Inside s field r

pub record SameCount (s : List ℕ) (fields last_fields : ℕ) (r : Bool) : Type 0 where
  pub is : (l : Fields) (n : ℕ) (t : List ℕ) → fields_parser fields (drop fields s) ≡ ok l n t
      → (m : Fields) (o : ℕ) (u : List ℕ) → fields_parser last_fields (drop last_fields s) ≡ ok m o u → r ≡ eqb (length m.fields) (length l.fields)
