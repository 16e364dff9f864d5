-- The names and enum strings of a definition stand in the file, so they are no longer than it; and so much is known of every record that is read.
use Prim.Native.Nat.{ℕ, zero, suc, ◌+◌, ◌*◌, ◌≤◌}
use native.Mathlib.Omega.{arith}
use mathlib.Core.Bool.{Bool, true, false, cond}
use mathlib.Core.Option.{Option, none, some}
use mathlib.Core.List.{List, [], ◌∷◌}
use lib.ListN.{length}
use lib.Dec.{leb, eqb}
use Rattle.bsii_format.specs.Replies.{bad_mark}
use Rattle.bsii_format.specs.Reader.{Reader, ◌<$>◌, with}
use Rattle.bsii_format.specs.Prototypes.{EnumValue, ValuePrototype, Prototype, enum_value_parser, enum_values_parser, value_prototype_parser, Fields, cons_field, fields_then, fields_from, fields_parser}
use Rattle.bsii_format.specs.Blocks.{DataBlock, find_by, get_prototype, data_values_parser}
use Rattle.bsii_format.specs.File.{Record, prototype, block, Head, ending, defining, carrying, mark_parser, head_parser, Step, end, more, prototype_step, block_step, data_block_parser, step_parser, record_parser, define, has_room, Records, cons_record, records_then, records_from, length_limit, define_all}
use Rattle.bsii_format.specs.Text.{value_text}
use Rattle.bsii_format.specs.BlockText.{block_text}
use Rattle.bsii_format.proofs.Readers.{fault≢ok}
use Rattle.bsii_length.specs.Bounds.{line_bound}
use Rattle.bsii_length.proofs.Taken.{Takes, after_taken, bind_takes, success_takes, exhausted_takes, map_takes, weaken, cond_takes, verify_takes, consumed_takes, repeat_takes, Row, nil, cons, Every, each, number_takes, str_takes}
use Rattle.bsii_length.proofs.Elements.{ShortEnums, id_takes}
use Rattle.bsii_length.proofs.Lines.{ShortField, values_takes, answered, ShortFields, ShortPrototype, block_size}

-- P of what there is
abbrev pub Of : {A : Type 0} → (A → Type 0) → Option A → Type 0
Of P none = Unit {0}
Of P (some a) = P a

-- ---- field definitions

enum_value_takes : Takes EnumValue enum_value_parser (λ x n. length x.string ≤ length_limit)
unfolding enum_value_parser
enum_value_takes = bind_takes _ (number_takes 4 (omega arith)) (λ c n l p. bind_takes _ str_takes (λ v m z q. success_takes _ q.0))

enum_values_takes : (t : ℕ) → Takes (List EnumValue) (enum_values_parser t) (λ l n. ShortEnums l)
unfolding enum_values_parser
enum_values_takes t =
    cond_takes (eqb t 0x37) (bind_takes _ (number_takes 4 (omega arith)) (λ c n l p. weaken (repeat_takes c enum_value_takes) (λ v m z q. each (λ x k h. h) q.0)))
    (success_takes [] nil)

entry_takes : Takes (Option ValuePrototype) value_prototype_parser (λ o n. Of ShortField o)
unfolding value_prototype_parser
entry_takes =
    bind_takes _ (number_takes 4 (omega arith)) (λ t n l p. cond_takes (eqb t 0) (success_takes none tt)
    (bind_takes _ str_takes (λ v m z q. bind_takes _ (enum_values_takes t) (λ e k y r. success_takes _ (record { name = q.0; enums = r })))))

then_takes : (R : Reader Fields) → Takes Fields R (λ l n. ShortFields l.fields) → (o : Option ValuePrototype) (c : List ℕ) → Of ShortField o
    → Takes Fields (fields_then R o c) (λ l n. ShortFields l.fields)
unfolding fields_then cons_field
then_takes R h none c k = success_takes _ nil
then_takes R h (some d) c k = map_takes (cons_field (with d c)) h (λ l n z p. cons k p)

fields_from_takes : (n : ℕ) → Takes Fields (fields_from n) (λ l k. ShortFields l.fields)
unfolding fields_from
fields_from_takes zero = exhausted_takes 4
fields_from_takes (suc n) =
    bind_takes (λ e. fields_then (fields_from n) e.value e.raw) (consumed_takes entry_takes) (λ e k l p. then_takes (fields_from n) (fields_from_takes n) e.value e.raw p)

fields_takes : Takes Fields fields_parser (λ l n. ShortFields l.fields)
unfolding fields_parser
fields_takes = record { taken = λ at s. (fields_from_takes (length s)).taken at s }

-- ---- records

abbrev ShortHead : Head → Type 0
ShortHead ending = Unit {0}
ShortHead (defining n name) = length name ≤ length_limit
ShortHead (carrying n) = Unit {0}

mark_takes : (m : ℕ) → Takes Head (mark_parser m) (λ h n. ShortHead h)
unfolding mark_parser
mark_takes zero = success_takes ending tt
mark_takes (suc m) = bind_takes _ (number_takes 4 (omega arith)) (λ c n l p. bind_takes _ str_takes (λ v k z q. success_takes (defining c v) q.0))

head_takes : Takes Head head_parser (λ h n. ShortHead h × (1 ≤ n))
unfolding head_parser
head_takes =
    bind_takes _ (number_takes 4 (omega arith)) (λ c n l p. cond_takes (eqb c 0)
    (bind_takes mark_parser (verify_takes (λ m. leb m 1) bad_mark (number_takes 1 (omega arith))) (λ m k z q. weaken (mark_takes m) (λ h j y r. (r, omega (arith, p.1)))))
    (success_takes (carrying c) (tt, omega (arith, p.1))))

-- a block that was read, in n bytes, has a text of at most n times 2^36 bytes, whatever definition it is written under
pub record FineBlock (b : DataBlock) (n : ℕ) : Type 0 where
  pub text : (at : ℕ) (p : Prototype) → ShortPrototype p → answered (block_text value_text at (some p) b) ≤ line_bound * n

abbrev pub FineRecord : Record → ℕ → Type 0
FineRecord (prototype p) n = ShortPrototype p
FineRecord (block b) n = FineBlock b n

abbrev FineStep : Step → ℕ → Type 0
FineStep (end l) n = Unit {0}
FineStep (more r) n = FineRecord r n

block_takes : (version start : ℕ) (hd : List ℕ) (c : ℕ) (o : Option Prototype) (n : ℕ) → 1 ≤ n → Takes Step (data_block_parser version start hd c o) (λ q m. FineStep q (n + m))
unfolding data_block_parser block_step
block_takes version start hd c none n h = record { taken = λ at s v at' r i e. fault≢ok e }
block_takes version start hd c (some y) n h = record {
  taken =
      (bind_takes {Q = λ q m. FineStep q (n + m)} (λ i. block_step hd c i <$> data_values_parser version y.fields) (consumed_takes id_takes)
      (λ i m l p. map_takes (block_step hd c i) (values_takes version y.fields)
      (λ v k z q. record { text = λ at w g. omega (arith, block_size at w (record { head = hd; prototype_id = c; id = i; values = v }) m k g p q) }))
      ).taken;
}

step_takes : (version : ℕ) (env : List Prototype) (start : ℕ) (hd : List ℕ) (h : Head) (n : ℕ) → ShortHead h → 1 ≤ n → Takes Step (step_parser version env start hd h) (λ q m. FineStep q (n + m))
unfolding step_parser prototype_step
step_takes version env start hd ending n h l = success_takes (end hd) tt
step_takes version env start hd (defining c name) n h l = map_takes (prototype_step hd c name) fields_takes (λ v m z q. record { name = h; fields = q })
step_takes version env start hd (carrying c) n h l = block_takes version start hd c (get_prototype c env) n l

record_takes : (version : ℕ) (env : List Prototype) → Takes Step (record_parser version env) FineStep
unfolding record_parser
record_takes version env = record {
  taken = λ at s.
      after_taken (λ h. step_parser version env at h.raw h.value) (consumed_takes head_takes) at s (λ h n l p. step_takes version env at h.raw h.value n p.0 p.1);
}

-- ---- all records

-- the records in n bytes, of which the end record has some
pub record FineRecords (q : Records) (n : ℕ) : Type 0 where
  pub size : ℕ
  pub row : Row Record FineRecord q.records size
  pub within : size ≤ n

records_then_takes : (rooms : ℕ) (env : List Prototype) (start : ℕ) (rest : List Prototype → Reader Records) → ((env : List Prototype) → Takes Records (rest env) FineRecords)
    → (z : Step) (n : ℕ) → FineStep z n → Takes Records (records_then rooms env start rest z) (λ q m. FineRecords q (n + m))
unfolding records_then cons_record
records_then_takes rooms env start rest h (end l) n p = success_takes _ (record { size = 0; row = nil; within = omega arith })
records_then_takes rooms env start rest h (more r) n p =
    cond_takes (has_room rooms env r)
    (map_takes (cons_record r) (h (define r env)) (λ q m z k. record { size = n + k.size; row = cons p k.row; within = omega (arith, k.within) }))
    (record { taken = λ at s v at' r i e. fault≢ok e })

pub records_from_takes : (version rooms n : ℕ) (env : List Prototype) → Takes Records (records_from version rooms n env) FineRecords
unfolding records_from
records_from_takes version rooms zero env = exhausted_takes 4
records_from_takes version rooms (suc n) env = record {
  taken = λ at s.
      after_taken (records_then rooms env at (λ e. records_from version rooms n e)) (record_takes version env) at s
      (λ z k l p. records_then_takes rooms env at (λ e. records_from version rooms n e) (records_from_takes version rooms n) z k p);
}

-- ---- the definitions

pub defined : {l : List Record} {n : ℕ} (env : List Prototype) → Row Record FineRecord l n → Every Prototype ShortPrototype env → Every Prototype ShortPrototype (define_all l env)
unfolding define_all define
defined env nil h = h
defined env (cons {a = prototype p} g k) h = defined (p ∷ env) k (cons g h)
defined env (cons {a = block b} g k) h = defined env k h

either_of : {A : Type 0} (P : A → Type 0) (b : Bool) (a : A) (o : Option A) → P a → Of P o → Of P (cond b (some a) o)
either_of P true a o h k = h
either_of P false a o h k = k

pub found : (n : ℕ) {env : List Prototype} → Every Prototype ShortPrototype env → Of ShortPrototype (get_prototype n env)
unfolding find_by
found n nil = tt
found n (cons {a = p} {l = env} g k) = either_of ShortPrototype (eqb n p.id) p (get_prototype n env) g (found n k)
