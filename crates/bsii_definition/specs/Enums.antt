-- The string of an enum value in a list that was accepted.
use Rattle.std.specs.Prelude.{◌≡◌, ℕ, ◌-◌, ◌≤◌, List, length, take, drop, Option as Answer, Some, None}
use Rattle.std.proofs.Math.Option.{Option, none, some}
use Rattle.bsii_format.specs.Reader.{ok, repeat}
use Rattle.bsii_format.specs.Prototypes.{EnumValue, enum_value_parser, enum_values_parser}
use Rattle.bsii_format.specs.Text.{enum_string}
use Rattle.bsii_string.specs.declared.answers.Text.{Text}
use Rattle.bsii_definition.specs.declared.enums.EnumPair.{EnumPair}

abbrev pub string_is : List ℕ → Answer Text → Option (List ℕ)
string_is s (Some t) = some (take (t.next - t.start) (drop t.start s))
string_is s None = none

-- for every input: a string that is answered lies in the file
abbrev pub StringInside : List ℕ → Answer Text → Type 0
StringInside s (Some t) = (t.start ≤ t.next) × (t.next ≤ length s)
StringInside s None = Unit {0}

abbrev pub PairInside : List ℕ → Answer EnumPair → Type 0
PairInside s (Some r) = (r.string.start ≤ r.string.next) × (r.string.next ≤ length s)
PairInside s None = Unit {0}

-- the pair p, read up to n
abbrev pub EnumPairIs : List ℕ → EnumValue → ℕ → Answer EnumPair → Type 0
EnumPairIs s p n (Some r) = (r.number ≡ p.number) × (take (r.string.next - r.string.start) (drop r.string.start s) ≡ p.string) × (r.string.next ≡ n)
EnumPairIs s p n None = ⊥

pub record PairAt (s : List ℕ) (at : ℕ) (r : Answer EnumPair) : Type 0 where
  pub is : (p : EnumValue) (n : ℕ) (t : List ℕ) → enum_value_parser at (drop at s) ≡ ok p n t → EnumPairIs s p n r
  pub inside : PairInside s r

pub record LastPair (s : List ℕ) (start count wanted : ℕ) (r : Answer Text) : Type 0 where
  pub is : (l : List EnumValue) (n : ℕ) (t : List ℕ) → repeat count enum_value_parser start (drop start s) ≡ ok l n t → string_is s r ≡ enum_string wanted l
  pub inside : StringInside s r

pub record StringOf (s : List ℕ) (at type_id wanted : ℕ) (r : Answer Text) : Type 0 where
  pub is : (l : List EnumValue) (n : ℕ) (t : List ℕ) → enum_values_parser type_id at (drop at s) ≡ ok l n t → string_is s r ≡ enum_string wanted l
  pub inside : StringInside s r
