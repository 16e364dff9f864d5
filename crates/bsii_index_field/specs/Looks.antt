-- What the look-up by an index reads.
use Rattle.std.specs.Prelude.{◌≡◌, ℕ, ◌≤◌, ◌<◌, cond, List, length, drop, eqb, Ok, Err, Result as Outcome, Some, None, Option as Answer}
use Rattle.std.proofs.Math.Option.{Option, some, map}
use Rattle.bsii_format.specs.Replies.{Reply, gives, refuses, undefined_prototype}
use Rattle.bsii_format.specs.Reader.{Result, ok, fault, Reader, success, verify, ◌>>=◌}
use Rattle.bsii_format.specs.Numbers.{le_u8, le_u32}
use Rattle.bsii_format.specs.Strings.{Id, str_parser, id_parser}
use Rattle.bsii_format.specs.Blocks.{DataValue, data_values_parser}
use Rattle.bsii_format.specs.Prototypes.{Prototype as PrototypeOf, Fields, fields_parser}
use Rattle.bsii_format.specs.Calls.{or_absent, placed, field_index, at_index, field_under, FieldAnswer, field_answer}
use Rattle.bsii_string.specs.Answers.{fault_is, refusal_is, end_of}
use Rattle.bsii_string.specs.declared.answers.Refusal.{Refusal}
use Rattle.bsii_block.specs.Blocks.{DefinedAt}
use Rattle.bsii_field.specs.Answers.{index_is, found, found_is}
use Rattle.bsii_field.specs.declared.Value.{Value}
use Rattle.bsii_file_field.specs.Answers.{field_is, Inside}
use Rattle.bsii_file_field.specs.declared.answers.Field.{Field}
use Rattle.bsii_derived.specs.IndexCalls.{demand, PrototypeHead, prototype_at, is_of, block_at, answering, index_field_call}
use Rattle.bsii_index_field.specs.declared.prototypes.Prototype.{Prototype}

-- ---- a prototype's head, in its parts

unfoldable pub named_head : Reader PrototypeHead
named_head = do
  n ← le_u32
  l ← str_parser
  success (record { id = n; name = l })

unfoldable pub marked_head : ℕ → Reader PrototypeHead
marked_head b = do
  m ← demand 1 b le_u8
  named_head

unfoldable pub head_of : Result PrototypeHead → Outcome Prototype Refusal
head_of (ok h n r) = Ok (record { id = h.id; fields = n })
head_of (fault f) = Err (refusal_is f)

-- ---- the prototype at an offset, for the block at b

pub data PrototypeRead (s : List ℕ) (at b : ℕ) : Outcome Prototype Refusal → Type 0 where
  read : (p : PrototypeOf) {n : ℕ} (d : DefinedAt s at p) → prototype_at b at (drop at s) ≡ ok p n (drop n s) → PrototypeRead s at b (Ok (record { id = p.id; fields = d.fields }))
  unread : {f : Refusal} → prototype_at b at (drop at s) ≡ fault (fault_is f) → PrototypeRead s at b (Err f)

-- ---- the block at an offset: what stands in front of its values

-- a prototype id that is p's, and the block's own id
unfoldable pub block_head : PrototypeOf → Reader Id
block_head p = do
  n ← verify (is_of p) undefined_prototype le_u32
  id_parser

pub record HeadRead (s : List ℕ) (at id : ℕ) (r : Outcome ℕ Refusal) : Type 0 where
  pub ends : (p : PrototypeOf) → p.id ≡ id → r ≡ end_of (block_head p at (drop at s))

-- ---- its values from `start` on, where definitions are read from `fields` on

-- what is kept behind the value w, number n
abbrev pub kept_of : Answer ℕ → ℕ → Answer Value → Value → Answer Value
kept_of None n v w = v
kept_of (Some i) n v w = cond (eqb i n) (Some w) v

-- the value at the index, if there is one, in its place
abbrev pub value_of : ℕ → List DataValue → Option ℕ → Option FieldAnswer
value_of start vs o = map field_answer (at_index (placed (λ (v : DataValue). length v.raw) start vs) o)

abbrev pub values_is : List ℕ → Outcome (Answer Value) Refusal → Reply (Option FieldAnswer)
values_is s (Ok v) = gives (found_is s v)
values_is s (Err f) = refuses (fault_is f)

-- all values are read, so the first fault comes before the answer; a value has a byte at least and lies in the file, for every input
pub record ValuesRead (version : ℕ) (s : List ℕ) (fields start : ℕ) (i : Answer ℕ) (r : Outcome (Answer Value) Refusal) : Type 0 where
  pub answer : (l : Fields) (n : ℕ) (t : List ℕ) → fields_parser fields (drop fields s) ≡ ok l n t
      → values_is s r ≡ answering (data_values_parser version l.fields start (drop start s)) (λ vs. gives (value_of start vs (index_is i)))
  pub inside : (t at next : ℕ) → r ≡ Ok (found t at next) → (at < next) × (next ≤ length s)

-- the field of a name
pub record FieldRead (version : ℕ) (s : List ℕ) (fields start : ℕ) (name : List ℕ) (r : Outcome Field Refusal) : Type 0 where
  pub reply : (l : Fields) (n : ℕ) (t : List ℕ) → fields_parser fields (drop fields s) ≡ ok l n t
      → field_is s r ≡ answering (data_values_parser version l.fields start (drop start s)) (λ vs. or_absent (value_of start vs (field_index name l.fields)))
  pub inside : Inside s r

-- ---- the field by the offsets of a record

abbrev pub looked_up : ℕ → List ℕ → ℕ → ℕ → List ℕ → Reply FieldAnswer
looked_up version s at o name =
    answering (prototype_at at o (drop o s)) (λ p.
    answering (block_at version p at (drop at s)) (λ b.
    or_absent (map field_answer (field_under name (record { offset = at; it = b }) (some p)))))

-- with the part inside the file
pub record Looked (version : ℕ) (s : List ℕ) (at o : ℕ) (name : List ℕ) (r : Outcome Field Refusal) : Type 0 where
  pub reply : field_is s r ≡ looked_up version s at o name
  pub inside : Inside s r

pub record LookedUp (w : ℕ) (s i : List ℕ) (k : ℕ) (name : List ℕ) (r : Outcome Field Refusal) : Type 0 where
  pub reply : field_is s r ≡ index_field_call w s i k name
  pub inside : Inside s r
