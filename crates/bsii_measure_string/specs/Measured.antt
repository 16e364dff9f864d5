-- A reader's result as its end and the length of a text of its value.
use Rattle.std.specs.Prelude.{ℕ, suc, ◌+◌, List, [], ◌∷◌, length, Ok, Err, Result as Outcome}
use Rattle.std.proofs.Math.Option.{get_or}
use Rattle.bsii_format.specs.Reader.{Result, ok, fault, Consumed}
use Rattle.bsii_format.specs.Values.{Element, Value, single, array}
use Rattle.bsii_format.specs.Digits.{decimal}
use Rattle.bsii_format.specs.Text.{element_text}
use Rattle.bsii_string.specs.Answers.{refusal_is}
use Rattle.bsii_measure_string.specs.declared.answers.Measured.{Measured}
use Rattle.bsii_string.specs.declared.answers.Refusal.{Refusal}

-- an end and a length
abbrev pub long_at : ℕ → ℕ → Outcome Measured Refusal
long_at at long = Ok (record { at = at; long = long })

-- `end_of` with a length
unfoldable pub measured : {A : Type 0} → (A → ℕ) → Result A → Outcome Measured Refusal
measured size (ok a at s) = long_at at (size a)
measured size (fault f) = Err (refusal_is f)

-- An element that is no enum value; of one that is, 0: its text needs the list
unfoldable pub element_size : Element → ℕ
element_size e = length (get_or (element_text [] e) [])

-- `  NAME[i]: VALUE`, for a name of so many bytes
unfoldable pub line_size : ℕ → ℕ → Consumed Element → ℕ
line_size name i e = name + length (decimal i) + 7 + element_size e.value

-- items one behind the other, the first one with the index i
unfoldable pub row_size : {A : Type 0} → (ℕ → A → ℕ) → ℕ → List A → ℕ
row_size line i [] = 0
row_size line i (a ∷ l) = line i a + row_size line (suc i) l

-- the lines of a field
unfoldable pub value_size : ℕ → Value → ℕ
value_size name (single e) = name + 5 + element_size e.value
value_size name (array l) = name + 5 + length (decimal (length l)) + row_size (line_size name) 0 l
