-- Bytes appended to a file of four bytes or more, by the law of proofs/Extends.antt for every reader of the layout. The header alone has no such law: what
-- is shorter than `BSII` is refused by 1, and more bytes may cure that.
use mathlib.Core.Path.{refl, ap}
use Prim.Native.Nat.{ℕ, zero, suc, ◌+◌, ◌≤◌, ◌<◌}
use native.Mathlib.Omega.{arith}
use mathlib.Core.Bool.{Bool, true, false, cond}
use mathlib.Core.Option.{Option, none, some}
use mathlib.Core.List.{List, [], ◌∷◌, ◌++◌}
use lib.ListN.{length, take, drop}
use lib.Seq.{take-append-le, drop-append-le}
use lib.Dec.{leb, eqb}
use Rattle.bsii_format.specs.declared.Cause.{Cause}
use Rattle.bsii_format.specs.Ascii.{ascii}
use Rattle.bsii_format.specs.Replies.{invalid_header, not_utf8, zero_digit, undefined_prototype, unlisted_type, table_full, bad_mark}
use Rattle.bsii_format.specs.Reader.{fault, fault_at, Reader, after, ◌>>=◌, success, fail, exhausted, ◌<$>◌, bytes, Consumed, with, consumed, same, tag}
use Rattle.bsii_format.specs.Numbers.{little_endian, number, le_u32}
use Rattle.bsii_format.specs.Utf8.{utf8}
use Rattle.bsii_format.specs.Strings.{str_parser, low63, spelled, encoded_str_parser, Id, nameless, named, id_parser}
use Rattle.bsii_format.specs.Types.{width, arity, Kind, numbers, string, encoded_string, id, Shape, one, many, shape_of}
use Rattle.bsii_format.specs.Values.{Element, nums, str, word, ident, Value, single, array, element_parser, shape_parser, value_parser}
use Rattle.bsii_format.specs.Prototypes.{EnumValue, ValuePrototype, Prototype, enum_value_parser, enum_values_parser, value_prototype_parser, Fields, cons_field, fields_then, fields_from, fields_parser}
use Rattle.bsii_format.specs.Blocks.{DataValue, get_prototype, data_value, data_value_parser, data_values_parser}
use Rattle.bsii_format.specs.File.{Head, ending, defining, carrying, mark_parser, head_parser, Step, end, more, prototype_step, block_step, data_block_parser, step_parser, record_parser, define, has_room, Records, cons_record, records_then, records_from, records_parser, header_parser, BsiiFile, bsii_file, bsii_parser}
use Rattle.bsii_format.proofs.Readers.{shorter, consumed_exact}
use Rattle.bsii_format.proofs.Parsers.{id_exact, element_exact, value_exact, value_prototype_exact, head_exact, header_exact}
use Rattle.bsii_format.proofs.Records.{record_exact, record_empty}
use Rattle.bsii_format.proofs.Extends.{From, Extended, Extends, Onward, Other, after_extended, success_extends, refusal_extends, fail_extends, after_extends, bind_extends, map_from, map_extended, map_extends, repeat_extends, cond_extends, tested, verify_extends, consumed_extended, consumed_extends, bytes_extends, Loop, loop_from, loop_extended}

-- ---- values

number_extends : (w : ℕ) → Extends ℕ (number w)
unfolding number
number_extends w = map_extends little_endian (bytes_extends w)

str_extends : Extends (List ℕ) str_parser
unfolding str_parser
str_extends = bind_extends _ (number_extends 4) (λ n. verify_extends utf8 not_utf8 tt (bytes_extends n))

word_extends : Extends ℕ encoded_str_parser
unfolding encoded_str_parser
word_extends = verify_extends spelled zero_digit tt (map_extends low63 (number_extends 8))

id_extends : Extends Id id_parser
unfolding id_parser
id_extends = bind_extends _ (number_extends 1) (λ n. cond_extends (eqb n 0xff) (map_extends nameless (number_extends 8)) (map_extends named (repeat_extends n word_extends)))

element_extends : (k : Kind) → Extends Element (element_parser k)
unfolding element_parser
element_extends (numbers k) = map_extends (nums k) (repeat_extends (arity k) (number_extends (width k)))
element_extends string = map_extends str str_extends
element_extends encoded_string = map_extends word word_extends
element_extends id = map_extends ident id_extends

shape_extends : (o : Option Shape) → Extends Value (shape_parser o)
unfolding shape_parser
shape_extends none = fail_extends Value unlisted_type tt
shape_extends (some (one k)) = map_extends single (consumed_extends (element_exact k) (element_extends k))
shape_extends (some (many k)) = map_extends array (bind_extends _ (number_extends 4) (λ n. repeat_extends n (consumed_extends (element_exact k) (element_extends k))))

pub value_extends : (version t : ℕ) → Extends Value (value_parser version t)
unfolding value_parser
value_extends version t = shape_extends (shape_of version t)

values_extends : (version : ℕ) (fs : List (Consumed ValuePrototype)) → Extends (List DataValue) (data_values_parser version fs)
unfolding data_values_parser data_value_parser
values_extends version [] = success_extends []
values_extends version (f ∷ fs) =
    let t = f.value.type_id in
    bind_extends _ (map_extends (data_value t) (consumed_extends (value_exact version t) (value_extends version t))) (λ v. bind_extends _ (values_extends version fs) (λ l. success_extends (v ∷ l)))

-- ---- field definitions

enum_values_extends : (t : ℕ) → Extends (List EnumValue) (enum_values_parser t)
unfolding enum_values_parser enum_value_parser
enum_values_extends t =
    cond_extends (eqb t 0x37)
    (bind_extends _ (number_extends 4) (λ n. repeat_extends n (bind_extends _ (number_extends 4) (λ c. bind_extends _ str_extends (λ s. success_extends _)))))
    (success_extends [])

entry_extends : Extends (Option ValuePrototype) value_prototype_parser
unfolding value_prototype_parser
entry_extends =
    bind_extends _ (number_extends 4)
    (λ t. cond_extends (eqb t 0) (success_extends none) (bind_extends _ str_extends (λ n. bind_extends _ (enum_values_extends t) (λ l. success_extends _))))

then_from : (R : Reader Fields) (o : Option ValuePrototype) (c : List ℕ) (at : ℕ) (s : List ℕ) → From at (R at s) → From at (fields_then R o c at s)
unfolding fields_then
then_from R none c at s h = (success_extends _).from at s
then_from R (some d) c at s h = map_from (cons_field (with d c)) R at s h

then_extended : (R S : Reader Fields) (o : Option ValuePrototype) (c : List ℕ) (at : ℕ) (s t : List ℕ) → Extended t (R at s) (S at (s ++ t))
    → Extended t (fields_then R o c at s) (fields_then S o c at (s ++ t))
unfolding fields_then
then_extended R S none c at s t h = (success_extends _).extended at s t
then_extended R S (some d) c at s t h = map_extended (cons_field (with d c)) R S at s t h

fields_loop : Loop (Unit {0}) (Consumed (Option ValuePrototype)) Fields (λ n x. fields_from n) (λ x. consumed value_prototype_parser)
    (λ x at M e. fields_then (M tt) e.value e.raw)
unfolding fields_from exhausted ◌>>=◌ consumed value_prototype_parser after number ◌<$>◌ bytes
fields_loop = record {
  stop = λ x at s. refl;
  due = λ x at. refl;
  step = λ n x at s. refl;
  extends = λ x. consumed_extends value_prototype_exact entry_extends;
  less = λ x. shorter (consumed_exact value_prototype_exact) refl;
  onward = λ x at M h e n s. then_from (M tt) e.value e.raw n s (h tt n s);
  extended = λ x at M N e n s t h. then_extended (M tt) (N tt) e.value e.raw n s t (h tt);
}

fields_extends : Extends Fields fields_parser
unfolding fields_parser
fields_extends = record {
  from = λ at s. loop_from fields_loop (length s) tt at s;
  extended = λ at s t. loop_extended fields_loop (length s) (length (s ++ t)) tt at s t (omega arith) (omega arith);
}

-- ---- records

mark_extends : (m : ℕ) → Extends Head (mark_parser m)
unfolding mark_parser
mark_extends zero = success_extends ending
mark_extends (suc m) = bind_extends _ (number_extends 4) (λ n. bind_extends _ str_extends (λ s. success_extends (defining n s)))

head_extends : Extends Head head_parser
unfolding head_parser
head_extends =
    bind_extends _ (number_extends 4)
    (λ n. cond_extends (eqb n 0) (bind_extends mark_parser (verify_extends (λ m. leb m 1) bad_mark tt (number_extends 1)) mark_extends) (success_extends (carrying n)))

block_extends : (version start : ℕ) (hd : List ℕ) (n : ℕ) (o : Option Prototype) → Extends Step (data_block_parser version start hd n o)
unfolding data_block_parser
block_extends version start hd n none = refusal_extends Step undefined_prototype start tt
block_extends version start hd n (some p) = bind_extends (λ i. block_step hd n i <$> data_values_parser version p.fields) (consumed_extends id_exact id_extends)
    (λ i. map_extends (block_step hd n i) (values_extends version p.fields))

step_extends : (version : ℕ) (env : List Prototype) (start : ℕ) (hd : List ℕ) (h : Head) → Extends Step (step_parser version env start hd h)
unfolding step_parser
step_extends version env start hd ending = success_extends (end hd)
step_extends version env start hd (defining n name) = map_extends (prototype_step hd n name) fields_extends
step_extends version env start hd (carrying n) = block_extends version start hd n (get_prototype n env)

record_extends : (version : ℕ) (env : List Prototype) → Extends Step (record_parser version env)
unfolding record_parser
record_extends version env =
    after_extends (λ start h. step_parser version env start h.raw h.value) (consumed_extends head_exact head_extends)
    (λ start h. step_extends version env start h.raw h.value)

module _ (rooms : ℕ) (env : List Prototype) (start : ℕ) where
  next_from : (M : List Prototype → Reader Records) → Onward M → Onward (records_then rooms env start M)
  unfolding records_then
  next_from M h (end l) at s = (success_extends _).from at s
  next_from M h (more r) at s = go (has_room rooms env r)
    where
      go : (b : Bool) → From at (cond b (cons_record r <$> M (define r env)) (λ at s. fault_at table_full start) at s)
      go true = map_from (cons_record r) (M (define r env)) at s (h (define r env) at s)
      go false = (refusal_extends Records table_full start tt).from at s

  next_extended : (M N : List Prototype → Reader Records) (z : Step) (at : ℕ) (s t : List ℕ) → ((e : List Prototype) → Extended t (M e at s) (N e at (s ++ t)))
      → Extended t (records_then rooms env start M z at s) (records_then rooms env start N z at (s ++ t))
  unfolding records_then
  next_extended M N (end l) at s t h = (success_extends _).extended at s t
  next_extended M N (more r) at s t h = go (has_room rooms env r)
    where
      go : (b : Bool) → Extended t (cond b (cons_record r <$> M (define r env)) (λ at s. fault_at table_full start) at s)
          (cond b (cons_record r <$> N (define r env)) (λ at s. fault_at table_full start) at (s ++ t))
      go true = map_extended (cons_record r) (M (define r env)) (N (define r env)) at s t (h (define r env))
      go false = (refusal_extends Records table_full start tt).extended at s t

records_loop : (version rooms : ℕ) → Loop (List Prototype) Step Records (records_from version rooms) (record_parser version) (records_then rooms)
unfolding records_from exhausted
records_loop version rooms = record {
  stop = λ env at s. refl;
  due = record_empty version;
  step = λ n env at s. refl;
  extends = record_extends version;
  less = λ env. shorter (record_exact version env) (record_empty version env 0);
  onward = next_from rooms;
  extended = next_extended rooms;
}

records_extends : (version rooms : ℕ) → Extends Records (records_parser version rooms)
unfolding records_parser
records_extends version rooms = record {
  from = λ at s. loop_from (records_loop version rooms) (length s) [] at s;
  extended = λ at s t. loop_extended (records_loop version rooms) (length s) (length (s ++ t)) [] at s t (omega arith) (omega arith);
}

-- ---- the file

tag_extended : (c : List ℕ) (n : Cause) → Other n → (at : ℕ) (s t : List ℕ) → length c ≤ length s → Extended t (tag c n at s) (tag c n at (s ++ t))
unfolding tag
tag_extended c n o at s t h =
    rw (take-append-le (length c) s t h, drop-append-le (length c) s t h)
    ((tested (same (take (length c) s) c) tt n at o).extended (at + length c) (drop (length c) s) t)

header_extended : (at : ℕ) (s t : List ℕ) → 4 ≤ length s → Extended t (header_parser at s) (header_parser at (s ++ t))
unfolding header_parser ◌>>=◌
header_extended at s t h =
    after_extended t (tag (ascii "BSII") invalid_header at s) (tag (ascii "BSII") invalid_header at (s ++ t)) _ _
    (tag_extended (ascii "BSII") invalid_header tt at s t h)
    (λ u n r e. (number_extends 4).extended n r t) (λ u. (number_extends 4).from)

pub file_extended : (rooms : ℕ) (s t : List ℕ) → 4 ≤ length s → Extended t (bsii_parser rooms 0 s) (bsii_parser rooms 0 (s ++ t))
unfolding bsii_parser ◌>>=◌
file_extended rooms s t h =
    after_extended t (consumed header_parser 0 s) (consumed header_parser 0 (s ++ t)) _ _ (consumed_extended header_exact 0 s t (header_extended 0 s t h))
    (λ v n r e. (rest v).extended n r t) (λ v. (rest v).from)
  where
    rest : (v : Consumed ℕ) → Extends BsiiFile (bsii_file v <$> records_parser v.value rooms)
    rest v = map_extends (bsii_file v) (records_extends v.value rooms)
