-- Prototypes and their field definitions: document 01, "Prototype: 0, byte 1, u32 id, string name, field definitions, u32 zero";
-- FORMAT.md, "Prototypes".
use Rattle.std.specs.Prelude.{ℕ, zero, suc, cond, List, [], ◌∷◌, length, eqb}
use Rattle.std.proofs.Math.Option.{Option, none, some}
use Rattle.bsii_format.specs.Reader.{Reader, success, exhausted, repeat, Consumed, with, consumed, ◌>>=◌, ◌<$>◌}
use Rattle.bsii_format.specs.Numbers.{le_u32}
use Rattle.bsii_format.specs.Strings.{str_parser}

-- a pair of an enum list
pub record EnumValue : Type 0 where
  pub number : ℕ
  pub string : List ℕ

-- a field definition; the enum list is empty for every type but 0x37
pub record ValuePrototype : Type 0 where
  pub type_id : ℕ
  pub name : List ℕ
  pub enum_values : List EnumValue

-- `head` is the bytes up to the definitions, `terminator` those of the u32 zero behind them
pub record Prototype : Type 0 where
  pub head : List ℕ
  pub id : ℕ
  pub name : List ℕ
  pub fields : List (Consumed ValuePrototype)
  pub terminator : List ℕ

unfoldable pub enum_value_parser : Reader EnumValue
enum_value_parser = do
  n ← le_u32
  s ← str_parser
  success (record { number = n; string = s })

-- "for type 0x37 also a u32 count and that many pairs of u32 number and string"
unfoldable pub enum_values_parser : ℕ → Reader (List EnumValue)
enum_values_parser t = cond (eqb t 0x37) (le_u32 >>= (λ n. repeat n enum_value_parser)) (success [])

-- "Definition: u32 type, not 0; string name": a definition, or none at the u32 zero that ends the list
unfoldable pub value_prototype_parser : Reader (Option ValuePrototype)
value_prototype_parser = do
  t ← le_u32
  cond (eqb t 0) (success none) (do
    n ← str_parser
    l ← enum_values_parser t
    success (some (record { type_id = t; name = n; enum_values = l })))

pub record Fields : Type 0 where
  pub fields : List (Consumed ValuePrototype)
  pub terminator : List ℕ

unfoldable pub cons_field : Consumed ValuePrototype → Fields → Fields
cons_field d l = record { fields = d ∷ l.fields; terminator = l.terminator }

-- behind an entry of the bytes l: the end of the list, or the definition d in front of what `more` reads
unfoldable pub fields_then : Reader Fields → Option ValuePrototype → List ℕ → Reader Fields
fields_then more none l = success (record { fields = []; terminator = l })
fields_then more (some d) l = cons_field (with d l) <$> more

-- The fuel is the number of bytes left, and an entry has at least one: with none left the u32 that is due runs out.
unfoldable pub fields_from : ℕ → Reader Fields
fields_from zero = exhausted 4
fields_from (suc n) = consumed value_prototype_parser >>= (λ e. fields_then (fields_from n) e.value e.raw)

unfoldable pub fields_parser : Reader Fields
fields_parser at s = fields_from (length s) at s
