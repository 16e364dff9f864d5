-- What the calls' answers mean.
use Rattle.std.specs.Prelude.{◌≡◌, ℕ, ◌+◌, ◌≤◌, List, length, take, drop, Ok, Err, Result as Outcome}
use Rattle.bsii_format.specs.Replies.{Reply, gives, refuses}
use Rattle.bsii_format.specs.Calls.{FieldAnswer}
use Rattle.bsii_string.specs.Answers.{fault_is}
use Rattle.bsii_string.specs.declared.answers.Refusal.{Refusal}
use Rattle.bsii_file_field.specs.declared.answers.Field.{Field}

-- the part's bytes are those of the file at its place
abbrev pub field_is : List ℕ → Outcome Field Refusal → Reply FieldAnswer
field_is s (Ok f) = gives (record { type_id = f.type_id; part = record { offset = f.part; size = f.part_size }; bytes = take f.part_size (drop f.part s) })
field_is s (Err f) = refuses (fault_is f)

-- the part lies inside the file, for every input
abbrev pub Inside : List ℕ → Outcome Field Refusal → Type 0
Inside s r = (f : Field) → r ≡ Ok f → f.part + f.part_size ≤ length s
