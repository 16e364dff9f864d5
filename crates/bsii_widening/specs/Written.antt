-- Lists of insertions as they can be written down, by their bytes alone: the inserted part is what a reader of the layout makes of the bytes. Bytes
-- that no reader takes whole make a part of the same bytes that is not well-formed, so the list is not allowed.
use Rattle.std.specs.Prelude.{ℕ, List, [], ◌∷◌, take, get_or}
use Rattle.std.proofs.Math.Option.{Option, none, some}
use Rattle.bsii_format.specs.Reader.{Result, ok, fault, Consumed, with}
use Rattle.bsii_format.specs.Strings.{named}
use Rattle.bsii_format.specs.Values.{array, value_parser}
use Rattle.bsii_format.specs.Prototypes.{ValuePrototype, Prototype, value_prototype_parser}
use Rattle.bsii_format.specs.Blocks.{DataValue, DataBlock}
use Rattle.bsii_format.specs.File.{prototype, block, Step, end, more, record_parser, prototypes_of}
use Rattle.bsii_widening.specs.Marks.{MarkedRecords, new_records}
use Rattle.bsii_widening.specs.Insertions.{Insertion, a_field, a_prototype, a_block, insert}

pub data Written : Type 0 where
  -- (i) the definition of the bytes d at position p of the prototype with the id n; block number k gets item number k of the values, if it is of that
  -- id (an item for a block of another id is not looked at)
  field : (n p : ℕ) (d : List ℕ) (values : List (List ℕ)) → Written
  -- (ii) and (iii) the record of the bytes s in front of record number k
  prototype_at : (k : ℕ) (s : List ℕ) → Written
  block_at : (k : ℕ) (s : List ℕ) → Written

-- what was read, if no byte is left
unfoldable pub whole : {A : Type 0} → A → Result A → A
whole other (ok a at []) = a
whole other (ok a at (x ∷ r)) = other
whole other (fault f) = other

unfoldable pub or_none : Option ValuePrototype → ValuePrototype
or_none none = record { type_id = 0; name = []; enum_values = [] }
or_none (some d) = d

unfoldable pub definition_of : List ℕ → Consumed ValuePrototype
definition_of s = with (or_none (whole none (value_prototype_parser 0 s))) s

unfoldable pub value_of : ℕ → ℕ → List ℕ → DataValue
value_of version t s = record { type_id = t; value = whole (array []) (value_parser version t 0 s); raw = s }

unfoldable pub step_prototype : List ℕ → Step → Prototype
step_prototype s (more (prototype p)) = p
step_prototype s (more (block b)) = record { head = s; id = 0; name = []; fields = []; terminator = [] }
step_prototype s (end l) = record { head = s; id = 0; name = []; fields = []; terminator = [] }

unfoldable pub step_block : List ℕ → Step → DataBlock
step_block s (more (block b)) = b
step_block s (more (prototype p)) = record { head = s; prototype_id = 0; id = with (named []) []; values = [] }
step_block s (end l) = record { head = s; prototype_id = 0; id = with (named []) []; values = [] }

-- by a reader of the save's version
module _ (version : ℕ) where
  -- a block is read under the definitions in front of its place in the file M
  unfoldable pub made : Written → MarkedRecords → Insertion
  made (field n p d values) M = a_field n p (definition_of d) (λ k. value_of version (definition_of d).value.type_id (get_or values k []))
  made (prototype_at k s) M = a_prototype k (step_prototype s (whole (end []) (record_parser version [] 0 s)))
  made (block_at k s) M = a_block k (step_block s (whole (end []) (record_parser version (prototypes_of (take k (new_records M))) 0 s)))

  -- the list on the file M, each on the file that the one before left
  unfoldable pub made_all : List Written → MarkedRecords → List Insertion
  made_all [] M = []
  made_all (w ∷ l) M = made w M ∷ made_all l (insert (made w M) M)
