-- What the reader accepts is a row of well-formed parts whose bytes are the file's (A), and a row of well-formed parts is accepted (B):
-- for field definitions, a block's values, records and lists of records.
use mathlib.Core.Path.{◌≡◌, refl, sym, ap, ◌∙◌, subst}
use Prim.Native.Nat.{ℕ, zero, suc, ◌+◌, ◌≤◌, ◌<◌}
use native.Mathlib.Nat.{add_assoc, add-zero}
use native.Mathlib.Omega.{arith}
use mathlib.Core.Bool.{Bool, true, false, cond}
use mathlib.Core.Option.{Option, none, some}
use mathlib.Core.List.{List, [], ◌∷◌, ◌++◌, append_assoc, append-nil}
use lib.ListN.{length, length-append}
use lib.Dec.{T, leb→le, le→leb}
use Rattle.bsii_format.specs.Replies.{Fault}
use Rattle.bsii_format.specs.Reader.{ok, fault, short_at, Reader, after, ◌>>=◌, success, exhausted, ◌<$>◌, bytes, Consumed, with, consumed}
use Rattle.bsii_format.specs.Numbers.{number}
use Rattle.bsii_format.specs.Strings.{Id, is_some, id_parser}
use Rattle.bsii_format.specs.Values.{Value, value_parser}
use Rattle.bsii_format.specs.Prototypes.{ValuePrototype, Prototype, value_prototype_parser, Fields, cons_field, fields_then, fields_from, fields_parser}
use Rattle.bsii_format.specs.Blocks.{DataValue, DataBlock, get_prototype, data_value, data_value_parser, data_values_parser}
use Rattle.bsii_format.specs.File.{Record, prototype, block, Head, ending, defining, carrying, head_parser, Step, end, more, prototype_step, block_step, data_block_parser, step_parser, record_parser, define, distinct_ids, has_room, Records, cons_record, records_then, records_from, records_parser, fields_bytes, values_bytes, record_bytes, records_bytes, define_all}
use Rattle.bsii_format.proofs.Readers.{Fits, Exact, fault≢ok, ok_move, after_ok, is_true, bind_fits, success_fits, map_fits, map_ok, consumed_fits, consumed_took, takes}
use Rattle.bsii_format.proofs.Parsers.{value_exact, id_exact, value_prototype_exact, head_exact}

-- ---- field definitions

-- a definition's bytes are read as the definition
abbrev pub GoodField : Consumed ValuePrototype → Type 0
GoodField f = Fits (Option ValuePrototype) value_prototype_parser (some f.value) f.raw

pub data GoodFields : List (Consumed ValuePrototype) → Type 0 where
  nil : GoodFields []
  cons : {f : Consumed ValuePrototype} {fs : List (Consumed ValuePrototype)} → GoodField f → GoodFields fs → GoodFields (f ∷ fs)

-- the bytes are read as the end of the definitions
abbrev pub GoodEnd : List ℕ → Type 0
GoodEnd = Fits (Option ValuePrototype) value_prototype_parser none

entry_takes : {o : Option ValuePrototype} {c : List ℕ} → Fits (Option ValuePrototype) value_prototype_parser o c → 1 ≤ length c
unfolding value_prototype_parser ◌>>=◌ after number ◌<$>◌ bytes
entry_takes h = takes value_prototype_parser h refl

fields_from_fits : (n : ℕ) (fs : List (Consumed ValuePrototype)) (t : List ℕ) → GoodFields fs → GoodEnd t → length fs < n
    → Fits Fields (fields_from n) (record { fields = fs; terminator = t }) (fields_bytes fs ++ t)
unfolding fields_from fields_then fields_bytes cons_field
fields_from_fits zero fs t g h l = absurd (omega arith)
fields_from_fits (suc n) [] t nil h l =
    subst (λ (c : List ℕ). Fits Fields (fields_from (suc n)) (record { fields = []; terminator = t }) c) (append-nil t)
    (bind_fits (λ e. fields_then (fields_from n) e.value e.raw) (consumed_fits h) (success_fits (record { fields = []; terminator = t })))
fields_from_fits (suc n) fs t (cons {f = f} {fs = gs} g k) h l =
    rw append_assoc
    (bind_fits (λ e. fields_then (fields_from n) e.value e.raw) (consumed_fits g) (map_fits (cons_field f) (fields_from_fits n gs t k h (omega arith))))

pub fields_long : {fs : List (Consumed ValuePrototype)} → GoodFields fs → length fs ≤ length (fields_bytes fs)
unfolding fields_bytes
fields_long nil = omega arith
fields_long (cons {f = f} {fs = fs} g k) = rw length-append (omega (arith, entry_takes g, fields_long k))

pub fields_fits : {fs : List (Consumed ValuePrototype)} {t : List ℕ} → GoodFields fs → GoodEnd t
    → Fits Fields fields_parser (record { fields = fs; terminator = t }) (fields_bytes fs ++ t)
unfolding fields_parser
fields_fits {fs} {t} g h = record {
  reads = λ b r.
      (fields_from_fits (length (fields_bytes fs ++ t ++ r)) fs t g h (rw (length-append, length-append) (omega (arith, entry_takes h, fields_long g)))).reads b r;
}

pub record GoodList (l : Fields) (at : ℕ) (s : List ℕ) (at' : ℕ) (r : List ℕ) : Type 0 where
  pub good : GoodFields l.fields
  pub last : GoodEnd l.terminator
  pub front : s ≡ fields_bytes l.fields ++ l.terminator ++ r
  pub place : at' ≡ at + length (fields_bytes l.fields ++ l.terminator)

fields_cons : (d : ValuePrototype) (c : List ℕ) {at : ℕ} {s : List ℕ} {at₁ : ℕ} {s₁ : List ℕ} {l : Fields} {at' : ℕ} {r : List ℕ}
    → GoodField (with d c) → s ≡ c ++ s₁ → at₁ ≡ at + length c → GoodList l at₁ s₁ at' r → GoodList (cons_field (with d c) l) at s at' r
unfolding fields_bytes cons_field
fields_cons d c {l = l} h p q i = record {
  good = cons h i.good;
  last = i.last;
  front = p ∙ ap (λ (z : List ℕ). c ++ z) i.front ∙ simp append_assoc;
  place = rw (append_assoc c (fields_bytes l.fields) l.terminator, length-append) (omega (arith, i.place));
}

fields_step : (n : ℕ) → ((at : ℕ) (s : List ℕ) (l : Fields) (at' : ℕ) (r : List ℕ) → fields_from n at s ≡ ok l at' r → GoodList l at s at' r)
    → {at : ℕ} {s : List ℕ} {at₁ : ℕ} (s₁ : List ℕ) {o : Option ValuePrototype} {c : List ℕ} → Fits (Option ValuePrototype) value_prototype_parser o c → s ≡ c ++ s₁ → at₁ ≡ at + length c
    → {l : Fields} {at' : ℕ} {r : List ℕ} → fields_then (fields_from n) o c at₁ s₁ ≡ ok l at' r → GoodList l at s at' r
unfolding fields_then success fields_bytes
fields_step n ih {at} {s} s₁ {o = none} h p q e =
    ok_move (λ l at' r. GoodList l at s at' r) e (record { good = nil; last = h; front = p; place = q })
fields_step n ih {at} {s} {at₁} s₁ {o = some d} {c} h p q {at' = at'} {r} e =
    let m = map_ok (cons_field (with d c)) (fields_from n) at₁ s₁ e in
    subst (λ l. GoodList l at s at' r) m.1 (fields_cons d c h p q (ih at₁ s₁ m.0 at' r m.2))

pub fields_good : (n at : ℕ) (s : List ℕ) (l : Fields) (at' : ℕ) (r : List ℕ) → fields_from n at s ≡ ok l at' r → GoodList l at s at' r
unfolding fields_from ◌>>=◌ exhausted
fields_good zero at s l at' r e = fault≢ok e
fields_good (suc n) at s l at' r e =
    let q = after_ok (consumed value_prototype_parser at s) (λ e. fields_then (fields_from n) e.value e.raw) e in
    let x = consumed_took value_prototype_exact at s q.0 q.1 q.2 q.3 in
    fields_step n (fields_good n) q.2 x.fit x.front x.place q.4

-- ---- a block's values

pub record GoodValue (version : ℕ) (f : Consumed ValuePrototype) (v : DataValue) : Type 0 where
  pub typed : v.type_id ≡ f.value.type_id
  pub fit : Fits Value (value_parser version f.value.type_id) v.value v.raw

pub data GoodValues (version : ℕ) : List (Consumed ValuePrototype) → List DataValue → Type 0 where
  nil : GoodValues version [] []
  cons : {f : Consumed ValuePrototype} {fs : List (Consumed ValuePrototype)} {v : DataValue} {l : List DataValue}
      → GoodValue version f v → GoodValues version fs l → GoodValues version (f ∷ fs) (v ∷ l)

pub values_length : {version : ℕ} {fs : List (Consumed ValuePrototype)} {l : List DataValue} → GoodValues version fs l → length fs ≡ length l
values_length nil = refl
values_length (cons g h) = ap suc (values_length h)

pub value_fits : {version : ℕ} {f : Consumed ValuePrototype} {v : DataValue} → GoodValue version f v → Fits DataValue (data_value_parser version f.value.type_id) v v.raw
unfolding data_value_parser data_value
value_fits {version} {f} {v} g =
    subst (λ (t : ℕ). Fits DataValue (data_value_parser version f.value.type_id) (record { type_id = t; value = v.value; raw = v.raw }) v.raw) (sym g.typed)
    (map_fits (data_value f.value.type_id) (consumed_fits g.fit))

pub value_good : {version : ℕ} (f : Consumed ValuePrototype) (at : ℕ) (s : List ℕ) (v : DataValue) (at' : ℕ) (r : List ℕ)
    → data_value_parser version f.value.type_id at s ≡ ok v at' r → GoodValue version f v × (s ≡ v.raw ++ r) × (at' ≡ at + length v.raw)
unfolding data_value_parser data_value
value_good {version} f at s v at' r e =
    let m = map_ok (data_value f.value.type_id) (consumed (value_parser version f.value.type_id)) at s e in
    let x = consumed_took (value_exact version f.value.type_id) at s m.0 at' r m.2 in
    subst (λ v. GoodValue version f v × (s ≡ v.raw ++ r) × (at' ≡ at + length v.raw)) m.1 (record { typed = refl; fit = x.fit }, x.front, x.place)

pub values_fits : {version : ℕ} {fs : List (Consumed ValuePrototype)} {l : List DataValue} → GoodValues version fs l
    → Fits (List DataValue) (data_values_parser version fs) l (values_bytes l)
unfolding data_values_parser values_bytes ◌<$>◌
values_fits nil = success_fits []
values_fits {version} (cons {f = f} {fs = fs} {v = v} {l = l} g k) =
    bind_fits (λ v. (λ l. v ∷ l) <$> data_values_parser version fs) (value_fits g) (map_fits (λ l. v ∷ l) (values_fits k))

pub record GoodRow (version : ℕ) (fs : List (Consumed ValuePrototype)) (l : List DataValue) (at : ℕ) (s : List ℕ) (at' : ℕ) (r : List ℕ) : Type 0 where
  pub good : GoodValues version fs l
  pub front : s ≡ values_bytes l ++ r
  pub place : at' ≡ at + length (values_bytes l)

pub values_good : {version : ℕ} (fs : List (Consumed ValuePrototype)) (at : ℕ) (s : List ℕ) (l : List DataValue) (at' : ℕ) (r : List ℕ)
    → data_values_parser version fs at s ≡ ok l at' r → GoodRow version fs l at s at' r
unfolding data_values_parser ◌>>=◌ success values_bytes
values_good {version} [] at s l at' r e = ok_move (λ l at' r. GoodRow version [] l at s at' r) e (record { good = nil; front = refl; place = sym (add-zero at) })
values_good {version} (f ∷ fs) at s l at' r e =
    let q = after_ok (data_value_parser version f.value.type_id at s) _ e in
    let x = value_good f at s q.0 q.1 q.2 q.3 in
    let m = after_ok (data_values_parser version fs q.1 q.2) _ q.4 in
    let i = values_good fs q.1 q.2 m.0 m.1 m.2 m.3 in
    ok_move (λ l at' r. GoodRow version (f ∷ fs) l at s at' r) m.4 (record {
      good = cons x.0 i.good;
      front = x.1 ∙ ap (λ (z : List ℕ). q.0.raw ++ z) i.front ∙ sym (append_assoc q.0.raw (values_bytes m.0) m.2);
      place = rw length-append (omega (arith, i.place, x.2));
    })

-- ---- records

pub record GoodPrototype (p : Prototype) : Type 0 where
  pub head : Fits Head head_parser (defining p.id p.name) p.head
  pub fields : GoodFields p.fields
  pub last : GoodEnd p.terminator

-- `by` is the definition in force
pub record GoodBlock (version : ℕ) (env : List Prototype) (b : DataBlock) : Type 0 where
  pub head : Fits Head head_parser (carrying b.prototype_id) b.head
  pub id : Fits Id id_parser b.id.value b.id.raw
  pub by : Prototype
  pub found : get_prototype b.prototype_id env ≡ some by
  pub values : GoodValues version by.fields b.values

abbrev pub GoodRecord : ℕ → List Prototype → Record → Type 0
GoodRecord version env (prototype p) = GoodPrototype p
GoodRecord version env (block b) = GoodBlock version env b

abbrev pub GoodStep : ℕ → List Prototype → Step → Type 0
GoodStep version env (end l) = Fits Head head_parser ending l
GoodStep version env (more r) = GoodRecord version env r

unfoldable pub step_bytes : Step → List ℕ
step_bytes (end l) = l
step_bytes (more r) = record_bytes r

headed : (version : ℕ) (env : List Prototype) {h : Head} {hd : List ℕ} {q : Step} {c : List ℕ} → Fits Head head_parser h hd
    → ((start : ℕ) → Fits Step (step_parser version env start hd h) q c) → Fits Step (record_parser version env) q (hd ++ c)
unfolding record_parser after
headed version env {h} {hd} {q} {c} f g = record {
  reads = λ b t.
      rw (append_assoc, (consumed_fits f).reads b (c ++ t), (g b).reads (b + length hd) t, length-append, add_assoc);
}

pub record_fits : (version : ℕ) (env : List Prototype) (q : Step) → GoodStep version env q → Fits Step (record_parser version env) q (step_bytes q)
unfolding step_bytes record_bytes step_parser prototype_step block_step data_block_parser
record_fits version env (end l) g = subst (λ (c : List ℕ). Fits Step (record_parser version env) (end l) c) (append-nil l) (headed version env g (λ start. success_fits (end l)))
record_fits version env (more (prototype p)) g =
    headed version env g.head (λ start. map_fits (prototype_step p.head p.id p.name) (fields_fits g.fields g.last))
record_fits version env (more (block b)) g =
    headed version env g.head (λ start. rw g.found
    (bind_fits (λ i. block_step b.head b.prototype_id i <$> data_values_parser version g.by.fields) (consumed_fits g.id)
    (map_fits (block_step b.head b.prototype_id b.id) (values_fits g.values))))

pub record GoodTaken (version : ℕ) (env : List Prototype) (q : Step) (at : ℕ) (s : List ℕ) (at' : ℕ) (r : List ℕ) : Type 0 where
  pub good : GoodStep version env q
  pub front : s ≡ step_bytes q ++ r
  pub place : at' ≡ at + length (step_bytes q)

block_good : {version : ℕ} {env : List Prototype} {at : ℕ} {s : List ℕ} {n : ℕ} {hd : List ℕ} {at₁ : ℕ} (s₁ : List ℕ) {o : Option Prototype} → get_prototype n env ≡ o
    → Fits Head head_parser (carrying n) hd → s ≡ hd ++ s₁ → at₁ ≡ at + length hd
    → {q : Step} {at' : ℕ} {r : List ℕ} → data_block_parser version at hd n o at₁ s₁ ≡ ok q at' r → GoodTaken version env q at s at' r
unfolding data_block_parser ◌>>=◌ block_step step_bytes record_bytes
block_good s₁ {o = none} k f p l e = fault≢ok e
block_good {version} {env} {at} {s} {n} {hd} {at₁} s₁ {o = some y} k f p l {at' = at'} {r} e =
    let w = after_ok (consumed id_parser at₁ s₁) (λ i. block_step hd n i <$> data_values_parser version y.fields) e in
    let x = consumed_took id_exact at₁ s₁ w.0 w.1 w.2 w.3 in
    let m = map_ok (block_step hd n w.0) (data_values_parser version y.fields) w.1 w.2 w.4 in
    let c = values_good y.fields w.1 w.2 m.0 at' r m.2 in
    subst (λ q. GoodTaken version env q at s at' r) m.1 (record {
      good = record { head = f; id = x.fit; by = y; found = k; values = c.good };
      front = p ∙ ap (λ (z : List ℕ). hd ++ z) (x.front ∙ ap (λ (z : List ℕ). w.0.raw ++ z) c.front) ∙ simp append_assoc;
      place = rw (length-append, length-append) (omega (arith, x.place, c.place));
    })

step_good : {version : ℕ} {env : List Prototype} {at : ℕ} {s : List ℕ} {h : Head} {hd : List ℕ} {at₁ : ℕ} (s₁ : List ℕ)
    → Fits Head head_parser h hd → s ≡ hd ++ s₁ → at₁ ≡ at + length hd
    → {q : Step} {at' : ℕ} {r : List ℕ} → step_parser version env at hd h at₁ s₁ ≡ ok q at' r → GoodTaken version env q at s at' r
unfolding step_parser success step_bytes record_bytes prototype_step fields_parser
step_good {version} {env} {at} {s} {h = ending} s₁ f p l e = ok_move (λ q at' r. GoodTaken version env q at s at' r) e (record { good = f; front = p; place = l })
step_good {version} {env} {at} {s} {h = defining n m} {hd} {at₁} s₁ f p l {at' = at'} {r} e =
    let w = map_ok (prototype_step hd n m) fields_parser at₁ s₁ e in
    let d = fields_good (length s₁) at₁ s₁ w.0 at' r w.2 in
    subst (λ q. GoodTaken version env q at s at' r) w.1 (record {
      good = record { head = f; fields = d.good; last = d.last };
      front = p ∙ ap (λ (z : List ℕ). hd ++ z) d.front ∙ simp append_assoc;
      place = rw length-append (omega (arith, d.place));
    })
step_good {h = carrying n} s₁ f p l e = block_good s₁ refl f p l e

pub record_good : {version : ℕ} (env : List Prototype) (at : ℕ) (s : List ℕ) (q : Step) (at' : ℕ) (r : List ℕ)
    → record_parser version env at s ≡ ok q at' r → GoodTaken version env q at s at' r
unfolding record_parser
record_good {version} env at s q at' r e =
    let w = after_ok (consumed head_parser at s) (λ h. step_parser version env at h.raw h.value) e in
    let x = consumed_took head_exact at s w.0 w.1 w.2 w.3 in
    step_good w.2 x.fit x.front x.place w.4

-- ---- lists of records

pub data GoodRecords (version : ℕ) : List Prototype → List Record → Type 0 where
  nil : {env : List Prototype} → GoodRecords version env []
  cons : {env : List Prototype} {i : Record} {l : List Record} → GoodRecord version env i → GoodRecords version (define i env) l → GoodRecords version env (i ∷ l)

-- more definitions, no fewer ids
cond_more : (b : Bool) (n : ℕ) → n ≤ cond b n (suc n)
cond_more true n = omega arith
cond_more false n = omega arith

pub ids_define : (i : Record) (env : List Prototype) → distinct_ids env ≤ distinct_ids (define i env)
unfolding define distinct_ids
ids_define (prototype p) env = cond_more (is_some (get_prototype p.id env)) (distinct_ids env)
ids_define (block b) env = omega arith

pub ids_define_all : (l : List Record) (env : List Prototype) → distinct_ids env ≤ distinct_ids (define_all l env)
unfolding define_all
ids_define_all [] env = omega arith
ids_define_all (i ∷ l) env = omega (arith, ids_define i env, ids_define_all l (define i env))

pub room_for : (rooms : ℕ) (i : Record) (env : List Prototype) → distinct_ids (define i env) ≤ rooms → T (has_room rooms env i)
unfolding has_room define
room_for rooms (prototype p) env h = le→leb (distinct_ids (p ∷ env)) rooms h
room_for rooms (block b) env h = tt

pub room_had : (rooms : ℕ) (i : Record) (env : List Prototype) → T (has_room rooms env i) → distinct_ids env ≤ rooms → distinct_ids (define i env) ≤ rooms
unfolding has_room define
room_had rooms (prototype p) env h k = leb→le (distinct_ids (p ∷ env)) rooms h
room_had rooms (block b) env h k = k

-- ---- a record takes a byte at least

pub record_exact : (version : ℕ) (env : List Prototype) → Exact Step (record_parser version env)
record_exact version env = record {
  took = λ at s v at' r e.
      let g = record_good env at s v at' r e in
      (step_bytes v, record { front = g.front; place = g.place; fits = record_fits version env v g.good });
}

-- with no byte left its number runs out
pub record_empty : (version : ℕ) (env : List Prototype) (at : ℕ) → record_parser version env at [] ≡ short_at at 4
unfolding record_parser after consumed head_parser ◌>>=◌ number ◌<$>◌ bytes
record_empty version env at = refl

pub head_takes : {h : Head} {c : List ℕ} → Fits Head head_parser h c → 1 ≤ length c
unfolding head_parser ◌>>=◌ after number ◌<$>◌ bytes
head_takes h = takes head_parser h refl

pub record_takes : (version : ℕ) (env : List Prototype) (i : Record) → GoodRecord version env i → 1 ≤ length (record_bytes i)
unfolding record_bytes
record_takes version env (prototype p) g = rw length-append (omega (arith, head_takes g.head))
record_takes version env (block b) g = rw length-append (omega (arith, head_takes g.head))

pub records_long : {version : ℕ} {env : List Prototype} {l : List Record} → GoodRecords version env l → length l ≤ length (records_bytes l)
unfolding records_bytes
records_long nil = omega arith
records_long {version} (cons {env = env} {i = i} g k) = rw length-append (omega (arith, record_takes version env i g, records_long k))

-- a good record at the front is read, and then the rest
pub records_step : (version rooms n : ℕ) (env : List Prototype) (i : Record) → GoodRecord version env i → T (has_room rooms env i) → (b : ℕ) (t : List ℕ)
    → records_from version rooms (suc n) env b (record_bytes i ++ t) ≡ (cons_record i <$> records_from version rooms n (define i env)) (b + length (record_bytes i)) t
unfolding records_from after step_bytes records_then
records_step version rooms n env i g o b t = rw ((record_fits version env (more i) g).reads b t, is_true (has_room rooms env i) o)

records_from_fits : {version : ℕ} (rooms n : ℕ) {env : List Prototype} {l : List Record} {fin : List ℕ} → GoodRecords version env l → distinct_ids (define_all l env) ≤ rooms
    → Fits Head head_parser ending fin → length l < n → Fits Records (records_from version rooms n env) (record { records = l; end = fin }) (records_bytes l ++ fin)
unfolding records_bytes cons_record records_from after step_bytes records_then define_all success
records_from_fits rooms zero g o h l = absurd (omega arith)
records_from_fits {version} rooms (suc n) {env} {fin = fin} nil o h l = record { reads = λ b t. rw ((record_fits version env (end fin) h).reads b t) }
records_from_fits {version} rooms (suc n) {fin = fin} (cons {env = env} {i = i} {l = l} g k) o h q = record {
  reads = λ b t.
      ap (records_from version rooms (suc n) env b) (simp append_assoc)
      ∙ records_step version rooms n env i g (room_for rooms i env (omega (arith, ids_define_all l (define i env)))) b (records_bytes l ++ fin ++ t)
      ∙ (map_fits (cons_record i) (records_from_fits rooms n k o h (omega arith))).reads (b + length (record_bytes i)) t
      ∙ ap (λ (j : ℕ). ok (record { records = i ∷ l; end = fin }) j t) (rw (append_assoc, length-append (record_bytes i) (records_bytes l ++ fin)) (omega arith));
}

pub records_fits : {version : ℕ} (rooms : ℕ) {l : List Record} {fin : List ℕ} → GoodRecords version [] l → distinct_ids (define_all l []) ≤ rooms
    → Fits Head head_parser ending fin → Fits Records (records_parser version rooms) (record { records = l; end = fin }) (records_bytes l ++ fin)
unfolding records_parser
records_fits rooms {l} {fin} g o h = record {
  reads = λ b t.
      (records_from_fits rooms (length (records_bytes l ++ fin ++ t)) g o h
      (rw (length-append, length-append) (omega (arith, records_long g, head_takes h)))).reads b t;
}

-- what the reader accepts is good records and an end
pub record GoodWhole (version rooms : ℕ) (env : List Prototype) (q : Records) (at : ℕ) (s : List ℕ) (at' : ℕ) (r : List ℕ) : Type 0 where
  pub good : GoodRecords version env q.records
  pub roomed : distinct_ids env ≤ rooms → distinct_ids (define_all q.records env) ≤ rooms
  pub last : Fits Head head_parser ending q.end
  pub front : s ≡ records_bytes q.records ++ q.end ++ r
  pub place : at' ≡ at + length (records_bytes q.records ++ q.end)

cond_reader : {A : Type 0} (b : Bool) (R : Reader A) (f : Fault) (at : ℕ) (s : List ℕ) {v : A} {at' : ℕ} {r : List ℕ}
    → cond b R (λ i l. fault f) at s ≡ ok v at' r → T b × (R at s ≡ ok v at' r)
cond_reader true R f at s e = (tt, e)
cond_reader false R f at s e = fault≢ok e

whole_step : {version rooms : ℕ} {env : List Prototype} (K : List Prototype → Reader Records)
    → ((env : List Prototype) (at : ℕ) (s : List ℕ) (q : Records) (at' : ℕ) (r : List ℕ) → K env at s ≡ ok q at' r → GoodWhole version rooms env q at s at' r)
    → {at : ℕ} {s : List ℕ} {at₁ : ℕ} {s₁ : List ℕ} {z : Step} → GoodTaken version env z at s at₁ s₁
    → {q : Records} {at' : ℕ} {r : List ℕ} → records_then rooms env at K z at₁ s₁ ≡ ok q at' r → GoodWhole version rooms env q at s at' r
unfolding records_then records_bytes step_bytes cons_record define_all success
whole_step {version} {rooms} {env} K ih {at} {s} {z = end l} x e =
    ok_move (λ q at' r. GoodWhole version rooms env q at s at' r) e (record { good = nil; roomed = λ h. h; last = x.good; front = x.front; place = x.place })
whole_step {version} {rooms} {env} K ih {at} {s} {at₁} {s₁} {z = more i} x {at' = at'} {r} e =
    let w = cond_reader (has_room rooms env i) (cons_record i <$> K (define i env)) _ at₁ s₁ e in
    let m = map_ok (cons_record i) (K (define i env)) at₁ s₁ w.1 in
    let j = ih (define i env) at₁ s₁ m.0 at' r m.2 in
    subst (λ q. GoodWhole version rooms env q at s at' r) m.1 (record {
      good = cons x.good j.good;
      roomed = λ h. j.roomed (room_had rooms i env w.0 h);
      last = j.last;
      front = x.front ∙ ap (λ (z : List ℕ). record_bytes i ++ z) j.front ∙ simp append_assoc;
      place = rw (append_assoc, length-append (record_bytes i)) (omega (arith, x.place, j.place));
    })

pub records_good : (version rooms n : ℕ) (env : List Prototype) (at : ℕ) (s : List ℕ) (q : Records) (at' : ℕ) (r : List ℕ)
    → records_from version rooms n env at s ≡ ok q at' r → GoodWhole version rooms env q at s at' r
unfolding records_from exhausted
records_good version rooms zero env at s q at' r e = fault≢ok e
records_good version rooms (suc n) env at s q at' r e =
    let w = after_ok (record_parser version env at s) (records_then rooms env at (λ e. records_from version rooms n e)) e in
    whole_step (λ e. records_from version rooms n e) (records_good version rooms n) (record_good env at s w.0 w.1 w.2 w.3) w.4
