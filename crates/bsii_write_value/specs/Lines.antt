-- What is written for an element that was accepted: its line.
use Rattle.std.specs.Prelude.{◌≡◌, ℕ, ◌+◌, ◌-◌, ◌≤◌, List, length, take, drop, Option as Answer, Some, None}
use Rattle.std.proofs.Math.Option.{Option, none, some, map}
use Rattle.bsii_format.specs.Reader.{ok}
use Rattle.bsii_format.specs.Types.{Kind, enum, numbers}
use Rattle.bsii_format.specs.Values.{Element, element_parser}
use Rattle.bsii_format.specs.Prototypes.{ValuePrototype}
use Rattle.bsii_format.specs.Text.{string_text, element_text, indexed, field_line}
use Rattle.bsii_string.specs.declared.answers.Text.{Text}
use Rattle.bsii_definition.specs.Enums.{string_is}
use Rattle.bsii_definition.specs.Pairs.{Describes}
use Rattle.bsii_definition.specs.declared.pairs.Definition.{Definition}
use Rattle.bsii_window.specs.Window.{Wrote}
use Rattle.bsii_write_value.specs.declared.values.Lines.{Lines}

-- the name that a definition has in the file
abbrev pub name_of : List ℕ → Definition → List ℕ
name_of s d = take (d.name_end - d.name) (drop d.name s)

-- lines up to a position, of a value that ends at an offset
abbrev pub lines : ℕ → ℕ → Answer Lines
lines at to = Some (record { at = at; to = to })

-- an answer: a text, and the offset n behind the value; or none for an enum value that is not in its list
abbrev pub LinesAre : List ℕ → ℕ → Option (List ℕ) → ℕ → Answer Lines → List ℕ → Type 0
LinesAre old to (some t) n (Some l) new = (l.at ≡ n) × Wrote old to t l.to new
LinesAre old to none n None new = Unit {0}
LinesAre old to (some t) n None new = ⊥
LinesAre old to none n (Some l) new = ⊥

-- ---- the string of an enum value that was accepted at an offset, under the last definition f, which d describes

-- for every input: the string lies in the file, and so does the value
abbrev pub EnumInside : List ℕ → ℕ → Answer Text → Type 0
EnumInside s at (Some t) = (t.start ≤ t.next) × (t.next ≤ length s) × (at + 4 ≤ length s)
EnumInside s at None = Unit {0}

pub record EnumTextOf (s : List ℕ) (at : ℕ) (d : Definition) (r : Answer Text) : Type 0 where
  pub is : (e : Element) (n : ℕ) → element_parser (numbers enum) at (drop at s) ≡ ok e n (drop n s) → (f : ValuePrototype) → Describes s d f
      → (at + 4 ≡ n) × (element_text f.enum_values e ≡ map string_text (string_is s r))
  pub inside : EnumInside s at r

-- ---- lines

-- The line of an element that was accepted at an offset, under the last definition f, which d describes, with a label made of the field's name: the name
-- itself, or as the element i of an array
pub record ElementWritten (s : List ℕ) (at : ℕ) (k : Kind) (d : Definition) (label : List ℕ → List ℕ) (old : List ℕ) (to : ℕ) (r : Answer Lines) (new : List ℕ) : Type 0 where
  pub writes : (e : Element) (n : ℕ) → element_parser k at (drop at s) ≡ ok e n (drop n s) → (f : ValuePrototype) → Describes s d f
      → LinesAre old to (map (field_line (label f.name)) (element_text f.enum_values e)) n r new
  pub size : length new ≡ length old

abbrev pub SingleWritten : List ℕ → ℕ → Kind → Definition → List ℕ → ℕ → Answer Lines → List ℕ → Type 0
SingleWritten s at k d old to r new = ElementWritten s at k d (λ (x : List ℕ). x) old to r new

abbrev pub IndexedWritten : List ℕ → ℕ → Kind → Definition → ℕ → List ℕ → ℕ → Answer Lines → List ℕ → Type 0
IndexedWritten s at k d i old to r new = ElementWritten s at k d (λ (x : List ℕ). indexed x i) old to r new
