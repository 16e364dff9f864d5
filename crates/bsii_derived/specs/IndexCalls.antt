-- What the calls about an index answer: document 02, E1 and E12; FORMAT.md, "The index". w is the number of bytes of its numbers.
use Rattle.std.specs.Prelude.{ℕ, ◌*◌, Bool, true, false, not, cond, ◌&&◌, List, [], ◌∷◌, length, drop, leb, eqb}
use Rattle.std.proofs.Math.Option.{Option, none, some, map}
use Rattle.bsii_format.specs.Replies.{Reply, gives, refuses, refusal, undefined_prototype, input_long, absent, misfit}
use Rattle.bsii_format.specs.Reader.{Result, ok, fault, fault_at, Reader, after, success, verify, same, Consumed, consumed, ◌>>=◌, ◌<$>◌}
use Rattle.bsii_format.specs.Numbers.{le_u8, le_u32}
use Rattle.bsii_format.specs.Strings.{is_some, str_parser, id_parser}
use Rattle.bsii_format.specs.Prototypes.{Prototype, Fields, fields_parser}
use Rattle.bsii_format.specs.Blocks.{DataBlock, get_prototype, data_values_parser}
use Rattle.bsii_format.specs.File.{prototypes_of, length_limit, parse}
use Rattle.bsii_format.specs.Calls.{of_file, or_absent, field_under, FieldAnswer, field_answer, WriteAnswer, write_answer}
use Rattle.bsii_derived.specs.Index.{IndexRecord, index_of, index_bytes, index_bytes_of, record_at, agreeing}

-- ---- "One call writes it, with 11 if the lent space is short."

-- the index's length in bytes, or a refusal; with 11 the needed length; the space after the call
unfoldable pub write_index_call : ℕ → ℕ → List ℕ → List ℕ → WriteAnswer ℕ
write_index_call w words s space = write_answer length space (of_file (λ f at. gives (index_bytes_of w f)) (parse words s))

-- ---- "One checks it against the file."

-- 14: "when the index's length isn't 12 times the blocks or a record differs, at the offset in the index of the first record that differs, is cut, is
-- missing or stands past the last block, after the file's own faults"
unfoldable pub checked : ℕ → List IndexRecord → List ℕ → Reply (Unit {0})
checked w l i = cond (same (index_bytes w l) i) (gives tt) (refusal misfit (agreeing w l i * (4 * w)))

unfoldable pub check_index_call : ℕ → ℕ → List ℕ → List ℕ → Reply (Unit {0})
check_index_call w words s i = of_file (λ f at. checked w (index_of f) i) (parse words s)

-- ---- "One looks up a field by it": "it reads the prototype, then the block, at the record's two offsets and gives the first fault met"

-- "A number other than 0 or a mark other than 1 at the prototype's offset .. is 6 at the block", whose offset is b
unfoldable pub demand : ℕ → ℕ → Reader ℕ → Reader ℕ
demand n b R at s = after (R at s) (λ m at' s'. cond (eqb m n) (ok m at' s') (fault_at undefined_prototype b))

pub record PrototypeHead : Type 0 where
  pub id : ℕ
  pub name : List ℕ

unfoldable pub prototype_head : ℕ → Reader PrototypeHead
prototype_head b = do
  z ← demand 0 b le_u32
  m ← demand 1 b le_u8
  n ← le_u32
  l ← str_parser
  success (record { id = n; name = l })

unfoldable pub prototype_with : Consumed PrototypeHead → Fields → Prototype
prototype_with h l = record { head = h.raw; id = h.value.id; name = h.value.name; fields = l.fields; terminator = l.terminator }

-- the prototype at the record's offset, to its closing zero, for the block at b
unfoldable pub prototype_at : ℕ → Reader Prototype
prototype_at b = consumed (prototype_head b) >>= (λ h. prototype_with h <$> fields_parser)

-- "a block whose prototype id is 0 or isn't that prototype's, is 6 at the block"
unfoldable pub is_of : Prototype → ℕ → Bool
is_of p n = not (eqb n 0) && eqb n p.id

-- the block at the record's offset, under that prototype: its id and every value
unfoldable pub block_at : ℕ → Prototype → Reader DataBlock
block_at version p = do
  h ← consumed (verify (is_of p) undefined_prototype le_u32)
  i ← consumed id_parser
  l ← data_values_parser version p.fields
  success (record { head = h.raw; prototype_id = h.value; id = i; values = l })

-- what was read, or its fault
unfoldable pub answering : {A B : Type 0} → Result A → (A → Reply B) → Reply B
answering (ok a at s) answer = answer a
answering (fault f) answer = refuses f

-- "then 13 where the index has no such whole record"; E12: the look-up reads the version "at offset 4, right before the prototype (3 at 4 if it runs
-- out)"; "then 13 for the name", which is looked for in the prototype that was read. Nothing else of the record is looked at
unfoldable pub field_by : List ℕ → List ℕ → Option IndexRecord → Reply FieldAnswer
field_by s name none = refusal absent 0
field_by s name (some r) =
    answering (le_u32 4 (drop 4 s)) (λ version.
    answering (prototype_at r.offset r.prototype (drop r.prototype s)) (λ p.
    answering (block_at version p r.offset (drop r.offset s)) (λ b.
    or_absent (map field_answer (field_under name (record { offset = r.offset; it = b }) (some p))))))

-- "it gives 12 first"; block number k
unfoldable pub index_field_call : ℕ → List ℕ → List ℕ → ℕ → List ℕ → Reply FieldAnswer
index_field_call w s i k name = cond (leb (length s) length_limit) (field_by s name (record_at w i k)) (refusal input_long 0)

-- ---- whether an index may stand in for the walk: "a save with no prototype id defined twice"

-- no definition has an earlier one of its id
unfoldable pub once : List Prototype → Bool
once [] = true
once (p ∷ env) = cond (is_some (get_prototype p.id env)) false (once env)

-- 1 or 0
unfoldable pub defines_once_call : ℕ → List ℕ → Reply ℕ
defines_once_call words s = of_file (λ f at. gives (cond (once (prototypes_of f.records)) 1 0)) (parse words s)
