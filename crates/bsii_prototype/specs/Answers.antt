-- What the code's answers mean, in the specification's terms.
use Rattle.std.specs.Prelude.{ℕ, ◌+◌, ◌-◌, List, length, take, drop, Ok, Err, Result as Outcome}
use Rattle.std.proofs.Math.Option.{Option, none, some}
use Rattle.bsii_format.specs.Reader.{Result, ok, fault}
use Rattle.bsii_format.specs.Prototypes.{ValuePrototype, Fields as FieldList}
use Rattle.bsii_format.specs.File.{Head as Heading, ending, defining, carrying}
use Rattle.bsii_string.specs.Answers.{fault_is, refusal_is}
use Rattle.bsii_string.specs.declared.answers.Refusal.{Refusal}
use Rattle.bsii_prototype.specs.declared.answers.Entry.{Entry}
use Rattle.bsii_prototype.specs.declared.answers.Entry.TheVariants.{Field, Last}
use Rattle.bsii_prototype.specs.declared.answers.Counted.{Counted}
use Rattle.bsii_prototype.specs.declared.answers.Head.{Head}
use Rattle.bsii_prototype.specs.declared.answers.Head.TheVariants.{End, Prototype, Block}

-- an entry whose name, if it has one, starts at `name`: eight bytes behind the entry's own start
unfoldable pub entry_of : ℕ → Result (Option ValuePrototype) → Outcome Entry Refusal
entry_of name (ok none n r) = Ok (Last n)
entry_of name (ok (some d) n r) = Ok (Field d.type_id name (name + length d.name) n)
entry_of name (fault f) = Err (refusal_is f)

-- k definitions, and the position behind their list's end
abbrev pub counted : ℕ → ℕ → Outcome Counted Refusal
counted k n = Ok (record { count = k; next = n })

unfoldable pub count_of : Result FieldList → Outcome Counted Refusal
count_of (ok l n r) = counted (length l.fields) n
count_of (fault f) = Err (refusal_is f)

-- a position of the file stands for the bytes from there on
abbrev pub head_is : List ℕ → Outcome Head Refusal → Result Heading
head_is s (Ok (End next)) = ok ending next (drop next s)
head_is s (Ok (Prototype id name next)) = ok (defining id (take (next - name) (drop name s))) next (drop next s)
head_is s (Ok (Block id next)) = ok (carrying id) next (drop next s)
head_is s (Err f) = fault (fault_is f)

-- the records start at 8
abbrev pub header_is : List ℕ → Outcome ℕ Refusal → Result ℕ
header_is s (Ok v) = ok v 8 (drop 8 s)
header_is s (Err f) = fault (fault_is f)
