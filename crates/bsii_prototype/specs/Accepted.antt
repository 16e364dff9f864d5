-- A field definition that was accepted before, in a small answer.
use Rattle.std.specs.Prelude.{◌≡◌, ℕ, ◌+◌, List, drop, Ok, Some, None, Option, Result as Outcome}
use Rattle.bsii_string.specs.Answers.{unchecked_str}
use Rattle.bsii_string.specs.declared.answers.Refusal.{Refusal}
use Rattle.bsii_prototype.specs.Entries.{entry_with}
use Rattle.bsii_prototype.specs.Answers.{entry_of}
use Rattle.bsii_prototype.specs.declared.accepted.Accepted.{Accepted}
use Rattle.bsii_prototype.specs.declared.answers.Entry.{Entry}
use Rattle.bsii_prototype.specs.declared.answers.Entry.TheVariants.{Field}

-- the answer of `entry_with` to the second walk
abbrev pub entry_at : List ℕ → ℕ → Outcome Entry Refusal
entry_at s at = entry_of (at + 8) (entry_with unchecked_str at (drop at s))

-- for every input: the definition that this answer is, of a type that is not 0; none where it is no definition, and only there
abbrev pub AcceptedIs : List ℕ → ℕ → Option Accepted → Type 0
AcceptedIs s at (Some r) = (r.type_id ≡ 0 → ⊥) × (Ok (Field r.type_id (at + 8) r.name_end r.next) ≡ entry_at s at)
AcceptedIs s at None = (t a b n : ℕ) → Ok (Field t a b n) ≡ entry_at s at → ⊥
