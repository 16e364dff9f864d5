-- What the writers answer for values that were accepted, under the last definition f, which d describes.
use Rattle.std.specs.Prelude.{◌≡◌, ℕ, List, length, drop, Option as Answer}
use Rattle.std.proofs.Math.Option.{Option, some}
use Rattle.bsii_format.specs.Reader.{ok, Consumed, consumed, repeat}
use Rattle.bsii_format.specs.Types.{Kind, many}
use Rattle.bsii_format.specs.Values.{Element, Value, element_parser, shape_parser, value_parser}
use Rattle.bsii_format.specs.Prototypes.{ValuePrototype}
use Rattle.bsii_format.specs.Text.{element_lines}
use Rattle.bsii_definition.specs.Pairs.{Describes}
use Rattle.bsii_definition.specs.declared.pairs.Definition.{Definition}
use Rattle.bsii_write_value.specs.Lines.{LinesAre}
use Rattle.bsii_write_value.specs.declared.values.Lines.{Lines}

-- the elements of an array
pub record VectorWritten (s : List ℕ) (start : ℕ) (k : Kind) (d : Definition) (count : ℕ) (old : List ℕ) (to : ℕ) (r : Answer Lines) (new : List ℕ) : Type 0 where
  pub writes : (l : List (Consumed Element)) (n : ℕ) → repeat count (consumed (element_parser k)) start (drop start s) ≡ ok l n (drop n s) → (f : ValuePrototype) → Describes s d f
      → LinesAre old to (element_lines f.name f.enum_values 0 l) n r new
  pub size : length new ≡ length old

-- `text` gives the lines of a value under a definition: `value_text` in the text call
module _ (text : ValuePrototype → Value → Option (List ℕ)) where
  -- an array, its count's line first
  pub record ArrayWritten (s : List ℕ) (at : ℕ) (k : Kind) (d : Definition) (old : List ℕ) (to : ℕ) (r : Answer Lines) (new : List ℕ) : Type 0 where
    pub writes : (v : Value) (n : ℕ) → shape_parser (some (many k)) at (drop at s) ≡ ok v n (drop n s) → (f : ValuePrototype) → Describes s d f → LinesAre old to (text f v) n r new
    pub size : length new ≡ length old

  -- a whole value
  pub record FieldWritten (version : ℕ) (s : List ℕ) (at type_id : ℕ) (d : Definition) (old : List ℕ) (to : ℕ) (r : Answer Lines) (new : List ℕ) : Type 0 where
    pub writes : (v : Value) (n : ℕ) → value_parser version type_id at (drop at s) ≡ ok v n (drop n s) → (f : ValuePrototype) → Describes s d f → LinesAre old to (text f v) n r new
    pub size : length new ≡ length old
