-- Field definitions with the reader of strings left open: at `str_parser` they are the specification's, and at `unchecked_str` they are
-- what the second walk reads, whose strings were checked before.
use Rattle.std.specs.Prelude.{ℕ, zero, suc, cond, List, [], length, leb, eqb}
use Rattle.std.proofs.Math.Option.{Option, none, some}
use Rattle.bsii_format.specs.Replies.{bad_mark}
use Rattle.bsii_format.specs.Reader.{Reader, success, exhausted, bytes, verify, repeat, consumed, ◌>>=◌}
use Rattle.bsii_format.specs.Numbers.{le_u8, le_u32}
use Rattle.bsii_format.specs.Prototypes.{EnumValue, ValuePrototype, Fields, fields_then}
use Rattle.bsii_format.specs.File.{Head, mark_parser}
use Rattle.bsii_string.specs.Answers.{unchecked_str}

unfoldable pub enum_value_with : Reader (List ℕ) → Reader EnumValue
enum_value_with S = do
  n ← le_u32
  s ← S
  success (record { number = n; string = s })

unfoldable pub enum_values_with : Reader (List ℕ) → ℕ → Reader (List EnumValue)
enum_values_with S t = cond (eqb t 0x37) (le_u32 >>= (λ n. repeat n (enum_value_with S))) (success [])

-- what follows a definition's type t
unfoldable pub definition_with : Reader (List ℕ) → ℕ → Reader (Option ValuePrototype)
definition_with S t = do
  n ← S
  l ← enum_values_with S t
  success (some (record { type_id = t; name = n; enum_values = l }))

unfoldable pub entry_with : Reader (List ℕ) → Reader (Option ValuePrototype)
entry_with S = do
  t ← le_u32
  cond (eqb t 0) (success none) (definition_with S t)

unfoldable pub fields_from_with : Reader (List ℕ) → ℕ → Reader Fields
fields_from_with S zero = exhausted 4
fields_from_with S (suc n) = consumed (entry_with S) >>= (λ e. fields_then (fields_from_with S n) e.value e.raw)

unfoldable pub fields_with : Reader (List ℕ) → Reader Fields
fields_with S at s = fields_from_with S (length s) at s

-- what follows a record number of zero
unfoldable pub marked_parser : Reader Head
marked_parser = verify (λ m. leb m 1) bad_mark le_u8 >>= mark_parser

-- the head of a prototype that was accepted before: nine bytes, the record number, the mark and the id, and the name
unfoldable pub unchecked_head : Reader (List ℕ)
unchecked_head = do
  h ← bytes 9
  unchecked_str
