-- Which refusals a reader gives, from numbers up to the whole file.
use Prim.Native.Nat.{ℕ, zero, suc, ◌+◌, ◌-◌, ◌/◌, ◌<◌}
use native.Mathlib.Omega.{arith}
use mathlib.Core.Path.{sym, subst}
use mathlib.Core.Bool.{Bool, true, false, cond, not, ◌&&◌, ◌||◌}
use mathlib.Core.Option.{Option, none, some}
use mathlib.Core.List.{List, [], ◌∷◌}
use lib.ListN.{length, take, drop}
use lib.Dec.{T, leb, eqb, ltb, lt→ltb, nleb→lt}
use Rattle.bsii_format.specs.declared.Cause.{Cause}
use Rattle.bsii_format.specs.Ascii.{ascii}
use Rattle.bsii_format.specs.Replies.{same_cause, Fault, refused, invalid_header, malformed, undefined_prototype, bad_mark}
use Rattle.bsii_format.specs.Reader.{Result, ok, fault, fault_at, short_at, Reader, after, ◌>>=◌, success, fail, ◌<$>◌, bytes, exhausted, verify, Consumed, with, consumed, repeat, same, tag}
use Rattle.bsii_format.specs.Numbers.{number, little_endian}
use Rattle.bsii_format.specs.Strings.{str_parser, low63, encoded_str_parser, Id, nameless, named, id_parser}
use Rattle.bsii_format.specs.Types.{width, arity, Kind, numbers, string, encoded_string, id, Shape, one, many, shape_of}
use Rattle.bsii_format.specs.Values.{Element, Value, single, array, nums, str, word, ident, element_parser, shape_parser, value_parser}
use Rattle.bsii_format.specs.Prototypes.{EnumValue, ValuePrototype, Prototype, enum_value_parser, enum_values_parser, value_prototype_parser, Fields, cons_field, fields_then, fields_from, fields_parser}
use Rattle.bsii_format.specs.Blocks.{DataValue, get_prototype, data_value, data_value_parser, data_values_parser}
use Rattle.bsii_format.specs.File.{Head, ending, defining, carrying, mark_parser, head_parser, Step, end, more, prototype_step, block_step, data_block_parser, step_parser, record_parser, define, has_room, Records, cons_record, records_then, records_from, records_parser, header_parser, BsiiFile, bsii_file, bsii_parser, length_limit, parse}
use Rattle.bsii_format.specs.Refusals.{value_numbers, file_numbers, among, counted}
use Rattle.bsii_format.proofs.Causes.{same_is}
use Rattle.bsii_format.proofs.Readers.{and_left, and_right, and_both}

-- ---- lists of causes

abbrev pub all_among : List Cause → List Cause → Bool
all_among l [] = true
all_among l (d ∷ k) = among l d && all_among l k

pub among_all : (l k : List Cause) → T (all_among l k) → (c : Cause) → T (among k c) → T (among l c)
among_all l [] h c t = absurd t
among_all l (d ∷ k) h c t = go (among l d) (same_cause c d) (λ e. subst (λ z. T (among l z)) (sym (same_is c d e))) h (λ i. among_all l k i c) t
  where
    go : (a b : Bool) → (T b → T a → T (among l c)) → T (a && all_among l k) → (T (all_among l k) → T (among k c) → T (among l c)) → T (b || among k c) → T (among l c)
    go true true here h there t = here tt tt
    go true false here h there t = there h t
    go false b here h there t = absurd h

pub told_all : (l k : List Cause) → T (all_among l k) → (f : Fault) → T (among k f.cause && counted f) → T (among l f.cause && counted f)
told_all l k h f t =
    let a = among k f.cause in
    and_both (among l f.cause) (counted f) (among_all l k h f.cause (and_left a (counted f) t)) (and_right a (counted f) t)

-- ---- readers

-- a result, or a fault by one of the causes, and with a count where it has 3
abbrev pub Told : {A : Type 0} → List Cause → Result A → Type 0
Told l (ok a at s) = Unit {0}
Told l (fault f) = T (among l f.cause && counted f)

pub more_told : (l k : List Cause) → T (all_among l k) → {A : Type 0} (q : Result A) → Told k q → Told l q
more_told l k h (ok a at s) t = tt
more_told l k h (fault f) t = told_all l k h f t

pub cond_told : {A : Type 0} (l : List Cause) (b : Bool) (q r : Result A) → Told l q → Told l r → Told l (cond b q r)
cond_told l true q r h k = h
cond_told l false q r h k = k

short_told : (A : Type 0) (l : List Cause) (at k : ℕ) → T (among l malformed) → 0 < k → Told {A = A} l (short_at at k)
short_told A l at k h p = and_both (among l malformed) (ltb 0 k) h (lt→ltb 0 k p)

-- whatever it is given, the reader refuses by one of the causes only
pub record Only (l : List Cause) (A : Type 0) (R : Reader A) : Type 0 where
  pub only : (at : ℕ) (s : List ℕ) → Told l (R at s)

-- and so by one of more causes
pub more_only : (l k : List Cause) → T (all_among l k) → {A : Type 0} {R : Reader A} → Only k A R → Only l A R
more_only l k h {R = R} o = record { only = λ at s. more_told l k h (R at s) (o.only at s) }

module _ {l : List Cause} where
  pub success_only : {A : Type 0} (a : A) → Only l A (success a)
  unfolding success
  success_only a = record { only = λ at s. tt }

  fail_only : {A : Type 0} (c : Cause) → T (among l c && counted (refused c 0)) → Only l A (fail c)
  unfolding fail
  fail_only c h = record { only = λ at s. h }

  pub after_only : {A B : Type 0} (q : Result A) (g : A → Reader B) → Told l q → ((a : A) → Only l B (g a)) → Told l (after q g)
  unfolding after
  after_only (ok a at s) g h k = (k a).only at s
  after_only (fault f) g h k = h

  pub bind_only : {A B : Type 0} {R : Reader A} (g : A → Reader B) → Only l A R → ((a : A) → Only l B (g a)) → Only l B (R >>= g)
  unfolding ◌>>=◌
  bind_only {R = R} g h k = record { only = λ at s. after_only (R at s) g (h.only at s) k }

  pub map_only : {A B : Type 0} (g : A → B) {R : Reader A} → Only l A R → Only l B (g <$> R)
  unfolding ◌<$>◌
  map_only g h = bind_only (λ a. success (g a)) h (λ a. success_only (g a))

  pub verify_only : {A : Type 0} (p : A → Bool) (c : Cause) {R : Reader A} → T (among l c && counted (refused c 0)) → Only l A R → Only l A (verify p c R)
  unfolding verify
  verify_only p c {R} m h = record {
    only = λ at s. after_only (R at s) _ (h.only at s) (λ a. record { only = λ i t. cond_told l (p a) (ok a i t) (fault_at c at) tt m });
  }

  pub consumed_only : {A : Type 0} {R : Reader A} → Only l A R → Only l (Consumed A) (consumed R)
  unfolding consumed
  consumed_only {R = R} h = record { only = λ at s. after_only (R at s) _ (h.only at s) (λ a. record { only = λ i t. tt }) }

  repeat_only : {A : Type 0} (n : ℕ) {R : Reader A} → Only l A R → Only l (List A) (repeat n R)
  unfolding repeat
  repeat_only zero h = success_only []
  repeat_only (suc n) h = bind_only _ h (λ a. bind_only _ (repeat_only n h) (λ k. success_only (a ∷ k)))

  cond_only : {A : Type 0} (b : Bool) {R S : Reader A} → Only l A R → Only l A S → Only l A (cond b R S)
  cond_only true h k = h
  cond_only false h k = k

  bytes_only : (n : ℕ) → T (among l malformed) → Only l (List ℕ) (bytes n)
  unfolding bytes
  bytes_only n h = record { only = λ at s. go at s (leb n (length s)) (nleb→lt n (length s)) }
    where
      go : (at : ℕ) (s : List ℕ) (b : Bool) → (T (not b) → length s < n) → Told l (cond b (ok (take n s) (at + n) (drop n s)) (short_at at (n - length s)))
      go at s true k = tt
      go at s false k = short_told (List ℕ) l at (n - length s) h (omega (arith, k tt))

  exhausted_only : {A : Type 0} (n : ℕ) → T (among l malformed) → 0 < n → Only l A (exhausted n)
  unfolding exhausted
  exhausted_only {A} n h p = record { only = λ at s. short_told A l at n h p }

  pub number_only : (w : ℕ) → T (among l malformed) → Only l ℕ (number w)
  unfolding number
  number_only w h = map_only little_endian (bytes_only w h)

-- ---- values

pub str_only : Only value_numbers (List ℕ) str_parser
unfolding str_parser
str_only = bind_only _ (number_only 4 tt) (λ n. verify_only _ _ tt (bytes_only n tt))

word_only : Only value_numbers ℕ encoded_str_parser
unfolding encoded_str_parser
word_only = verify_only _ _ tt (map_only low63 (number_only 8 tt))

pub id_only : Only value_numbers Id id_parser
unfolding id_parser
id_only = bind_only _ (number_only 1 tt) (λ n. cond_only (eqb n 0xff) (map_only nameless (number_only 8 tt)) (map_only named (repeat_only n word_only)))

element_only : (k : Kind) → Only value_numbers Element (element_parser k)
unfolding element_parser
element_only (numbers k) = map_only (nums k) (repeat_only (arity k) (number_only (width k) tt))
element_only string = map_only str str_only
element_only encoded_string = map_only word word_only
element_only id = map_only ident id_only

shape_only : (o : Option Shape) → Only value_numbers Value (shape_parser o)
unfolding shape_parser
shape_only none = fail_only _ tt
shape_only (some (one k)) = map_only single (consumed_only (element_only k))
shape_only (some (many k)) = map_only array (bind_only _ (number_only 4 tt) (λ n. repeat_only n (consumed_only (element_only k))))

pub value_only : (version t : ℕ) → Only value_numbers Value (value_parser version t)
unfolding value_parser
value_only version t = shape_only (shape_of version t)

-- ---- definitions and the values under them

enum_values_only : (t : ℕ) → Only value_numbers (List EnumValue) (enum_values_parser t)
unfolding enum_values_parser enum_value_parser
enum_values_only t =
    cond_only (eqb t 0x37) (bind_only _ (number_only 4 tt) (λ n. repeat_only n (bind_only _ (number_only 4 tt) (λ c. bind_only _ str_only (λ s. success_only _))))) (success_only [])

entry_only : Only value_numbers (Option ValuePrototype) value_prototype_parser
unfolding value_prototype_parser
entry_only =
    bind_only _ (number_only 4 tt) (λ t. cond_only (eqb t 0) (success_only none) (bind_only _ str_only (λ n. bind_only _ (enum_values_only t) (λ l. success_only _))))

then_only : (R : Reader Fields) → Only value_numbers Fields R → (o : Option ValuePrototype) (c : List ℕ) → Only value_numbers Fields (fields_then R o c)
unfolding fields_then
then_only R h none c = success_only _
then_only R h (some d) c = map_only (cons_field (with d c)) h

fields_from_only : (n : ℕ) → Only value_numbers Fields (fields_from n)
unfolding fields_from
fields_from_only zero = exhausted_only _ tt (omega arith)
fields_from_only (suc n) = bind_only _ (consumed_only entry_only) (λ e. then_only (fields_from n) (fields_from_only n) e.value e.raw)

pub fields_only : Only value_numbers Fields fields_parser
unfolding fields_parser
fields_only = record { only = λ at s. (fields_from_only (length s)).only at s }

pub values_only : (version : ℕ) (fs : List (Consumed ValuePrototype)) → Only value_numbers (List DataValue) (data_values_parser version fs)
unfolding data_values_parser data_value_parser
values_only version [] = success_only []
values_only version (f ∷ fs) =
    bind_only _ (map_only (data_value f.value.type_id) (consumed_only (value_only version f.value.type_id)))
    (λ v. bind_only _ (values_only version fs) (λ l. success_only (v ∷ l)))

-- ---- records

-- of a record: a value's, 6 and 15; 10 stands behind a prototype that was read
abbrev pub record_numbers : List Cause
record_numbers = undefined_prototype ∷ bad_mark ∷ value_numbers

-- what a value is refused by, a record is
in_record : {A : Type 0} {R : Reader A} → Only value_numbers A R → Only record_numbers A R
in_record h = more_only record_numbers value_numbers tt h

mark_only : (m : ℕ) → Only record_numbers Head (mark_parser m)
unfolding mark_parser
mark_only zero = success_only ending
mark_only (suc m) = bind_only _ (number_only 4 tt) (λ n. bind_only _ (in_record str_only) (λ s. success_only (defining n s)))

head_only : Only record_numbers Head head_parser
unfolding head_parser
head_only =
    bind_only _ (number_only 4 tt)
    (λ n. cond_only (eqb n 0) (bind_only mark_parser (verify_only _ _ tt (number_only 1 tt)) mark_only) (success_only (carrying n)))

block_only : (version start : ℕ) (hd : List ℕ) (c : ℕ) (o : Option Prototype) → Only record_numbers Step (data_block_parser version start hd c o)
unfolding data_block_parser
block_only version start hd c none = record { only = λ at s. tt }
block_only version start hd c (some p) = record {
  only = (bind_only (λ i. block_step hd c i <$> data_values_parser version p.fields) (consumed_only (in_record id_only)) (λ i. map_only (block_step hd c i) (in_record (values_only version p.fields)))).only;
}

step_only : (version : ℕ) (env : List Prototype) (start : ℕ) (hd : List ℕ) (h : Head) → Only record_numbers Step (step_parser version env start hd h)
unfolding step_parser
step_only version env start hd ending = success_only (end hd)
step_only version env start hd (defining c name) = map_only (prototype_step hd c name) (in_record fields_only)
step_only version env start hd (carrying c) = block_only version start hd c (get_prototype c env)

pub record_only : (version : ℕ) (env : List Prototype) → Only record_numbers Step (record_parser version env)
unfolding record_parser
record_only version env = record {
  only = λ at s. after_only (consumed head_parser at s) _ ((consumed_only head_only).only at s) (λ h. step_only version env at h.raw h.value);
}

-- ---- the file

records_then_only : (rooms : ℕ) (env : List Prototype) (start : ℕ) (rest : List Prototype → Reader Records) → ((env : List Prototype) → Only file_numbers Records (rest env))
    → (z : Step) → Only file_numbers Records (records_then rooms env start rest z)
unfolding records_then
records_then_only rooms env start rest h (end l) = success_only _
records_then_only rooms env start rest h (more r) = cond_only (has_room rooms env r) (map_only (cons_record r) (h (define r env))) (record { only = λ at s. tt })

records_only : (version rooms n : ℕ) (env : List Prototype) → Only file_numbers Records (records_from version rooms n env)
unfolding records_from
records_only version rooms zero env = exhausted_only _ tt (omega arith)
records_only version rooms (suc n) env = record {
  only = λ at s.
      after_only (record_parser version env at s) _ ((more_only file_numbers record_numbers tt (record_only version env)).only at s)
      (records_then_only rooms env at (λ e. records_from version rooms n e) (records_only version rooms n));
}

pub header_only : Only (invalid_header ∷ malformed ∷ []) ℕ header_parser
unfolding header_parser tag
header_only =
    bind_only _ (record { only = λ at s. cond_told (invalid_header ∷ malformed ∷ []) (same (take 4 s) (ascii "BSII")) _ _ tt tt })
    (λ u. number_only 4 tt)

file_only : (rooms : ℕ) → Only file_numbers BsiiFile (bsii_parser rooms)
unfolding bsii_parser records_parser
file_only rooms =
    bind_only (λ h. bsii_file h <$> records_parser h.value rooms) (consumed_only (more_only file_numbers _ tt header_only))
    (λ h. map_only (bsii_file h) (record { only = λ at s. (records_only h.value rooms (length s) []).only at s }))

pub parse_told : (words : ℕ) (s : List ℕ) → Told file_numbers (parse words s)
unfolding parse
parse_told words s = cond_told file_numbers (leb (length s) length_limit) _ _ ((file_only (words / 3)).only 0 s) tt
