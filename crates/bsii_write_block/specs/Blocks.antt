-- What the writers of blocks answer for blocks that were accepted.
use Rattle.std.specs.Prelude.{◌≡◌, ℕ, ◌+◌, ◌-◌, ◌≤◌, ◌<◌, Bool, true, List, eqb, length, take, drop, Some, None, Option as Answer, Ok, Err, Result as Outcome}
use Rattle.std.proofs.Math.Option.{Option, some}
use Rattle.bsii_format.specs.Replies.{Reply, gives, refuses}
use Rattle.bsii_format.specs.Reader.{ok}
use Rattle.bsii_format.specs.Strings.{Id, id_parser}
use Rattle.bsii_format.specs.Values.{Value}
use Rattle.bsii_format.specs.Prototypes.{ValuePrototype, Prototype, Fields, fields_parser}
use Rattle.bsii_format.specs.Blocks.{DataValue, DataBlock, data_values_parser}
use Rattle.bsii_format.specs.BlockText.{joined, block_opening, closing, fields_text, block_text}
use Rattle.bsii_string.specs.Answers.{fault_is}
use Rattle.bsii_string.specs.declared.answers.Refusal.{Refusal}
use Rattle.bsii_block.specs.Blocks.{DefinedAt}
use Rattle.bsii_window.specs.Window.{Wrote}
use Rattle.bsii_write_value.specs.declared.values.Lines.{Lines}
use Rattle.bsii_write_block.specs.declared.blocks.FieldPlace.{FieldPlace}

-- a text, with the offset n behind what it is of; or the refusal
abbrev pub WrittenIs : List ℕ → ℕ → Reply (List ℕ) → ℕ → Outcome Lines Refusal → List ℕ → Type 0
WrittenIs old to (gives t) n (Ok l) new = (l.at ≡ n) × Wrote old to t l.to new
WrittenIs old to (refuses f) n (Err g) new = fault_is g ≡ f
WrittenIs old to (gives t) n (Err g) new = ⊥
WrittenIs old to (refuses f) n (Ok l) new = ⊥

pub record SameFields (s : List ℕ) (in_force last fields last_fields : ℕ) (r : Bool) : Type 0 where
  pub is : (p q : Prototype) (h : DefinedAt s in_force p) (k : DefinedAt s last q) → h.fields ≡ fields → k.fields ≡ last_fields → r ≡ eqb (length q.fields) (length p.fields)

-- `text` gives the lines of a value under a definition: `value_text` in the text call
module _ (text : ValuePrototype → Value → Option (List ℕ)) where
  -- The fields vs under the definitions l in force, read up to e, with the names of the last definitions m: as many as there are values, or 8
  -- was given
  pub record FieldsWritten (version : ℕ) (s : List ℕ) (start fields last_fields : ℕ) (old : List ℕ) (to : ℕ) (r : Outcome Lines Refusal) (new : List ℕ) : Type 0 where
    pub writes : (l : Fields) (n : ℕ) (t : List ℕ) → fields_parser fields (drop fields s) ≡ ok l n t → (m : Fields) (o : ℕ) (u : List ℕ) → fields_parser last_fields (drop last_fields s) ≡ ok m o u
        → (vs : List DataValue) (e : ℕ) → data_values_parser version l.fields start (drop start s) ≡ ok vs e (drop e s) → eqb (length m.fields) (length l.fields) ≡ true
        → WrittenIs old to (fields_text text start m.fields vs) e r new
    pub size : length new ≡ length old

  -- the same from a place on
  abbrev pub FieldsFrom : ℕ → List ℕ → FieldPlace → List ℕ → Outcome Lines Refusal → List ℕ → Type 0
  FieldsFrom version s p old r new = FieldsWritten version s p.at p.field p.last_field old p.to r new

  -- A turn: no field is left; or one is refused, and with it all; or one is written, and what is written of the fields behind it is written of all
  abbrev pub FieldTurned : ℕ → List ℕ → FieldPlace → List ℕ → Outcome (Answer FieldPlace) Refusal → List ℕ → Type 0
  FieldTurned version s p old (Ok None) new = FieldsFrom version s p old (Ok (record { at = p.at; to = p.to })) new
  FieldTurned version s p old (Err f) new = FieldsFrom version s p old (Err f) new
  FieldTurned version s p old (Ok (Some q)) new =
      (p.field < q.field) × (q.field ≤ length s) × (length new ≡ length old) × ((r : Outcome Lines Refusal) (last : List ℕ) → FieldsFrom version s q new r last → FieldsFrom version s p old r last)

  -- the lines of a block, where both lists have the same number of fields
  pub record BodyWritten (version : ℕ) (s : List ℕ) (id start fields name last_fields : ℕ) (old : List ℕ) (to : ℕ) (r : Outcome Lines Refusal) (new : List ℕ) : Type 0 where
    pub writes : (i : Id) → id_parser id (drop id s) ≡ ok i start (drop start s) → (l : Fields) (n : ℕ) (t : List ℕ) → fields_parser fields (drop fields s) ≡ ok l n t
        → (m : Fields) (o : ℕ) (u : List ℕ) → fields_parser last_fields (drop last_fields s) ≡ ok m o u
        → (vs : List DataValue) (e : ℕ) → data_values_parser version l.fields start (drop start s) ≡ ok vs e (drop e s) → eqb (length m.fields) (length l.fields) ≡ true
        → WrittenIs old to (joined (joined (gives (block_opening (take (last_fields - name) (drop name s)) i)) (fields_text text start m.fields vs)) (gives closing)) e r new
    pub size : length new ≡ length old

  -- a block b at an offset, read up to e under the definition p in force, and named by the last one q
  pub record BlockWritten (version : ℕ) (s : List ℕ) (offset id in_force last : ℕ) (old : List ℕ) (to : ℕ) (r : Outcome Lines Refusal) (new : List ℕ) : Type 0 where
    pub writes : (p q : Prototype) → DefinedAt s in_force p → DefinedAt s last q → (b : DataBlock) → id ≡ offset + length b.head
        → (i : ℕ) → i ≡ id + length b.id.raw → id_parser id (drop id s) ≡ ok b.id.value i (drop i s)
        → (e : ℕ) → data_values_parser version p.fields i (drop i s) ≡ ok b.values e (drop e s)
        → WrittenIs old to (block_text text offset (some q) b) e r new
    pub size : length new ≡ length old
