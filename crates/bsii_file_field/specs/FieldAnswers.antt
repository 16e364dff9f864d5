-- What the field call knows of a file that was read.
use Rattle.std.specs.Prelude.{◌≡◌, ℕ, ◌≤◌, ◌<◌, List, length, Result as Outcome, Option as Answer}
use Rattle.std.proofs.Math.Option.{map}
use Rattle.bsii_format.specs.Prototypes.{Prototype}
use Rattle.bsii_format.specs.Blocks.{DataBlock, get_prototype}
use Rattle.bsii_format.specs.Calls.{Placed, field_answer, field_under, field_call, or_absent}
use Rattle.bsii_string.specs.declared.answers.Refusal.{Refusal}
use Rattle.bsii_field.specs.Answers.{found, found_is}
use Rattle.bsii_field.specs.declared.Value.{Value}
use Rattle.bsii_walk.specs.Seek.{BlockIs}
use Rattle.bsii_walk.specs.declared.records.Block.{Block}
use Rattle.bsii_file_field.specs.Answers.{field_is, Inside}
use Rattle.bsii_file_field.specs.declared.answers.Field.{Field}

-- of a block that the search found: the value under the name, or none; a value has a byte at least and lies in the file, for every input
pub record FieldFound (version : ℕ) (s : List ℕ) (b : Block) (name : List ℕ) (r : Answer Value) : Type 0 where
  pub answers : (last : List Prototype) (x : Placed DataBlock) → BlockIs version s last b x → found_is s r ≡ map field_answer (field_under name x (get_prototype x.it.prototype_id last))
  pub inside : (t at next : ℕ) → r ≡ found t at next → (at < next) × (next ≤ length s)

-- the same as a reply
pub record FieldPlaced (version : ℕ) (s : List ℕ) (b : Block) (name : List ℕ) (r : Outcome Field Refusal) : Type 0 where
  pub answers : (last : List Prototype) (x : Placed DataBlock) → BlockIs version s last b x → field_is s r ≡ or_absent (map field_answer (field_under name x (get_prototype x.it.prototype_id last)))
  pub inside : Inside s r

-- the call's answer, with the part inside the file
pub record FieldRead (words : ℕ) (s : List ℕ) (k : ℕ) (name : List ℕ) (r : Outcome Field Refusal) : Type 0 where
  pub reply : field_is s r ≡ field_call words s k name
  pub inside : Inside s r
