-- A line has at most 2^36 bytes, and a value no more lines than bytes: so the text of a value, and of a block, is at most 2^36 times its bytes.
use mathlib.Core.Path.{◌≡◌}
use Prim.Native.Nat.{ℕ, suc, ◌+◌, ◌*◌, ◌^◌, ◌≤◌, ◌<◌}
use native.Mathlib.Omega.{arith}
use mathlib.Core.Option.{Option, none, some, map}
use mathlib.Core.List.{List, [], ◌∷◌}
use lib.ListN.{length, length-append}
use lib.Dec.{eqb}
use Rattle.bsii_format.specs.declared.Cause.{Cause}
use Rattle.bsii_format.specs.Replies.{Reply, gives, refuses, unlisted_type, enum_value}
use Rattle.bsii_format.specs.Reader.{◌<$>◌, Consumed}
use Rattle.bsii_format.specs.Digits.{decimal}
use Rattle.bsii_format.specs.Types.{Shape, one, many, shape_of}
use Rattle.bsii_format.specs.Values.{Element, Value, single, array, shape_parser, value_parser}
use Rattle.bsii_format.specs.Prototypes.{ValuePrototype, Prototype}
use Rattle.bsii_format.specs.Blocks.{DataValue, DataBlock, data_value, data_value_parser, data_values_parser}
use Rattle.bsii_format.specs.Text.{id_text, element_text, field_line, indexed, append, element_lines, value_text}
use Rattle.bsii_format.specs.File.{length_limit}
use Rattle.bsii_format.specs.BlockText.{joined, or_refuse, block_opening, closing, values_offset, fields_text, block_text}
use Rattle.bsii_length.specs.Bounds.{line_bound}
use Rattle.bsii_length.proofs.Digits.{either, digits_length}
use Rattle.bsii_length.proofs.Taken.{Takes, bind_takes, success_takes, fail_takes, map_takes, weaken, consumed_takes, repeat_takes, Row, nil, cons, row_long, Every, number_takes}
use Rattle.bsii_length.proofs.Elements.{size, ShortEnums, FineId, FineElement, element_takes}

-- ---- the lines of a value

-- names and enum strings stand in the file
pub record ShortField (d : ValuePrototype) : Type 0 where
  pub name : length d.name ≤ length_limit
  pub enums : ShortEnums d.enum_values

line_length : (name v : List ℕ) → length (field_line name v) ≡ 5 + length name + length v
unfolding field_line
line_length name v = simp length-append (omega arith)

indexed_length : (name : List ℕ) (i : ℕ) → i < 2 ^ 64 → length (indexed name i) ≤ length name + 67
unfolding indexed
indexed_length name i h = simp length-append (omega (arith, digits_length 10 64 i (omega arith) h))

mapped_line : (name : List ℕ) (o : Option (List ℕ)) → size (map (field_line name) o) ≤ 5 + length name + size o
mapped_line name none = omega arith
mapped_line name (some v) = omega (arith, line_length name v)

append_size : (a b : Option (List ℕ)) → size (append a b) ≤ size a + size b
unfolding append
append_size none b = omega arith
append_size (some a) none = omega arith
append_size (some a) (some b) = rw length-append (omega arith)

abbrev FineElements : List (Consumed Element) → ℕ → Type 0
FineElements = Row (Consumed Element) (λ e n. FineElement e.value n)

lines_size : (d : ValuePrototype) → ShortField d → (i : ℕ) {l : List (Consumed Element)} {n : ℕ} → FineElements l n → i + n < 2 ^ 64
    → size (element_lines d.name d.enum_values i l) ≤ line_bound * n
unfolding element_lines
lines_size d h i nil k = omega arith
lines_size d h i (cons {a = e} {l = l} p q) k =
    omega (
      arith,
      append_size (map (field_line (indexed d.name i)) (element_text d.enum_values e.value)) (element_lines d.name d.enum_values (suc i) l),
      mapped_line (indexed d.name i) (element_text d.enum_values e.value),
      indexed_length d.name i (omega (arith, p.some)),
      p.text d.enum_values h.enums,
      lines_size d h (suc i) q (omega (arith, p.some)),
    )

-- a value that was read, in n bytes
pub record FineValue (v : Value) (n : ℕ) : Type 0 where
  pub text : (d : ValuePrototype) → ShortField d → size (value_text d v) ≤ line_bound * n

shape_takes : (o : Option Shape) → Takes Value (shape_parser o) FineValue
unfolding shape_parser value_text
shape_takes none = fail_takes unlisted_type
shape_takes (some (one k)) =
    map_takes single (consumed_takes (element_takes k))
    (λ e n l p. record { text = λ d h. omega (arith, mapped_line d.name (element_text d.enum_values e.value), h.name, p.text d.enum_values h.enums, p.some) })
shape_takes (some (many k)) =
    map_takes {P = λ l n. (m : ℕ) × FineElements l m × (n ≡ 4 + m)} array
    (bind_takes _ (number_takes 4 (omega arith)) (λ c n l p. weaken (repeat_takes c (consumed_takes (element_takes k))) (λ v m z q. (m, q.0, omega (arith, p.1)))))
    (λ l n z p. record {
      text = λ d h.
          omega (
            arith,
            append_size (some (field_line d.name (decimal (length l)))) (element_lines d.name d.enum_values 0 l),
            line_length d.name (decimal (length l)),
            digits_length 10 64 (length l) (omega arith) (omega (arith, row_long (λ a m q. q.some) p.1, p.2)),
            h.name,
            lines_size d h 0 p.1 (omega (arith, p.2)),
            p.2,
          );
    })

pub values_takes : (version : ℕ) (fs : List (Consumed ValuePrototype)) → Takes (List DataValue) (data_values_parser version fs) (Row DataValue (λ v n. FineValue v.value n))
unfolding data_values_parser data_value_parser data_value value_parser ◌<$>◌
values_takes version [] = success_takes [] nil
values_takes version (f ∷ fs) =
    bind_takes _ (map_takes (data_value f.value.type_id) (consumed_takes (shape_takes (shape_of version f.value.type_id))) (λ v n l p. p))
    (λ v n l p. map_takes (λ l. v ∷ l) (values_takes version fs) (λ l m z q. cons p q))

-- ---- the text of a block

abbrev pub answered : Reply (List ℕ) → ℕ
answered (gives t) = length t
answered (refuses f) = 0

pub joined_size : (a b : Reply (List ℕ)) → answered (joined a b) ≤ answered a + answered b
unfolding joined
joined_size (gives a) (gives b) = rw length-append (omega arith)
joined_size (gives a) (refuses f) = omega arith
joined_size (refuses f) b = omega arith

or_refuse_size : (c : Cause) (at : ℕ) (o : Option (List ℕ)) → answered (or_refuse c at o) ≤ size o
unfolding or_refuse
or_refuse_size c at none = omega arith
or_refuse_size c at (some t) = omega arith

abbrev pub ShortFields : List (Consumed ValuePrototype) → Type 0
ShortFields = Every (Consumed ValuePrototype) (λ f. ShortField f.value)

pub record ShortPrototype (p : Prototype) : Type 0 where
  pub name : length p.name ≤ length_limit
  pub fields : ShortFields p.fields

fields_size : (at : ℕ) {fs : List (Consumed ValuePrototype)} {l : List DataValue} {n : ℕ} → ShortFields fs → Row DataValue (λ v n. FineValue v.value n) l n
    → answered (fields_text value_text at fs l) ≤ line_bound * n
unfolding fields_text
fields_size at nil q = omega arith
fields_size at (cons h k) nil = omega arith
fields_size at (cons {a = f} {l = fs} h k) (cons {a = v} {l = l} p q) =
    omega (
      arith,
      joined_size (or_refuse enum_value at (value_text f.value v.value)) (fields_text value_text (at + length v.raw) fs l),
      or_refuse_size enum_value at (value_text f.value v.value),
      p.text f.value h,
      fields_size (at + length v.raw) k q,
    )

pub block_size : (at : ℕ) (p : Prototype) (b : DataBlock) (m n : ℕ) → ShortPrototype p → FineId b.id.value m → Row DataValue (λ v n. FineValue v.value n) b.values n
    → answered (block_text value_text at (some p) b) ≤ line_bound * (1 + m + n)
unfolding block_text block_opening closing
block_size at p b m n h i k =
    let fields = fields_text value_text (values_offset at b) p.fields b.values in
    let opening : length (block_opening p.name b.id.value) ≡ 6 + length p.name + length (id_text b.id.value) = simp length-append (omega arith) in
    either answered (eqb (length p.fields) (length b.values))
    (omega (
      arith,
      joined_size (joined (gives (block_opening p.name b.id.value)) fields) (gives closing),
      joined_size (gives (block_opening p.name b.id.value)) fields,
      fields_size (values_offset at b) h.fields k,
      h.name,
      i.text,
    ))
    (omega arith)
