-- What is known of a block's values under definitions that stand in the file.
use Rattle.std.specs.Prelude.{◌≡◌, ℕ, Bool, true, false, List, [], ◌∷◌, length, drop, Ok, Err, Result as Outcome}
use Rattle.bsii_format.specs.Reader.{Result, ok, Reader, success, ◌>>=◌, Consumed}
use Rattle.bsii_format.specs.Strings.{id_parser}
use Rattle.bsii_format.specs.Prototypes.{ValuePrototype, Prototype, Fields, fields_parser}
use Rattle.bsii_format.specs.Blocks.{DataValue, data_values_parser}
use Rattle.bsii_format.specs.File.{defining, head_parser}
use Rattle.bsii_string.specs.Answers.{end_of}
use Rattle.bsii_string.specs.declared.answers.Refusal.{Refusal}
use Rattle.bsii_prototype.specs.declared.answers.Counted.{Counted}
use Rattle.bsii_prototype.specs.Answers.{counted}

-- the prototype p stands at the offset o of the file s: its head is read there, and its definitions from `fields` on
pub record DefinedAt (s : List ℕ) (o : ℕ) (p : Prototype) : Type 0 where
  pub fields : ℕ
  pub next : ℕ
  pub head : head_parser o (drop o s) ≡ ok (defining p.id p.name) fields (drop fields s)
  pub list : fields_parser fields (drop fields s) ≡ ok (record { fields = p.fields; terminator = p.terminator }) next (drop next s)

-- values under n definitions end here, or have this fault
abbrev pub counted_end : ℕ → Outcome ℕ Refusal → Outcome Counted Refusal
counted_end n (Ok m) = counted n m
counted_end n (Err f) = Err f

-- one value for each definition, by the reader of its type, and nothing kept of them
unfoldable pub values_with : {A : Type 0} → (ℕ → Reader A) → List (Consumed ValuePrototype) → Reader (Unit {0})
values_with V [] = success tt
values_with V (f ∷ fs) = V f.value.type_id >>= (λ v. values_with V fs)

-- values from `start` on, where definitions are read from `fields` on
pub record ValuesWith {A : Type 0} (V : ℕ → Reader A) (s : List ℕ) (fields start : ℕ) (r : Outcome Counted Refusal) : Type 0 where
  pub ends : (l : Fields) (n : ℕ) (t : List ℕ) → fields_parser fields (drop fields s) ≡ ok l n t
      → r ≡ counted_end (length l.fields) (end_of (values_with V l.fields start (drop start s)))

-- the format's own
pub record ValuesEnd (version : ℕ) (s : List ℕ) (fields start : ℕ) (r : Outcome Counted Refusal) : Type 0 where
  pub ends : (l : Fields) (n : ℕ) (t : List ℕ) → fields_parser fields (drop fields s) ≡ ok l n t
      → r ≡ counted_end (length l.fields) (end_of (data_values_parser version l.fields start (drop start s)))

-- a block's id and values from `at` on, under a prototype that stands at an offset
pub record DefinedWith {A B : Type 0} (I : Reader A) (V : ℕ → Reader B) (s : List ℕ) (o at : ℕ) (r : Outcome Counted Refusal) : Type 0 where
  pub ends : (p : Prototype) → DefinedAt s o p → r ≡ counted_end (length p.fields) (end_of ((I >>= (λ i. values_with V p.fields)) at (drop at s)))

pub record DefinedEnd (version : ℕ) (s : List ℕ) (o at : ℕ) (r : Outcome Counted Refusal) : Type 0 where
  pub ends : (p : Prototype) → DefinedAt s o p → r ≡ counted_end (length p.fields) (end_of ((id_parser >>= (λ i. data_values_parser version p.fields)) at (drop at s)))

-- one that was accepted, passed without a test
pub record BlockSkipped (version : ℕ) (s : List ℕ) (o at : ℕ) (r : Outcome Counted Refusal) : Type 0 where
  pub ends : (p : Prototype) → DefinedAt s o p → (v : List DataValue) (m : ℕ) (u : List ℕ) → (id_parser >>= (λ i. data_values_parser version p.fields)) at (drop at s) ≡ ok v m u
      → r ≡ counted (length p.fields) m

-- accepted, if that is known
abbrev pub Assured : {A : Type 0} → Bool → Result A → Type 0
Assured false q = Unit {0}
Assured {A} true q = (a : A) × (n : ℕ) × (r : List ℕ) × (q ≡ ok a n r)

-- a block under a prototype that stands at an offset, with or without tests
pub record KnownEnd (version : ℕ) (s : List ℕ) (o at : ℕ) (known : Bool) (r : Outcome Counted Refusal) : Type 0 where
  pub ends : (p : Prototype) → DefinedAt s o p → Assured known ((id_parser >>= (λ i. data_values_parser version p.fields)) at (drop at s))
      → r ≡ counted_end (length p.fields) (end_of ((id_parser >>= (λ i. data_values_parser version p.fields)) at (drop at s)))
