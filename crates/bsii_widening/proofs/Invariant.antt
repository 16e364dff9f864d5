-- What holds of a marked file along the list of insertions: every record is well-formed under the definitions in force, every block has a text
-- under the last ones, and an old block's marks are in step with its definition's. Each insertion keeps it.
use mathlib.Core.Path.{◌≡◌, refl, sym, ap, ◌∙◌, subst, subst₂}
use Prim.Native.Nat.{ℕ, zero, suc}
use mathlib.Core.Bool.{Bool, true, false, not}
use mathlib.Core.Option.{Option, none, some}
use mathlib.Core.List.{List, [], ◌∷◌}
use lib.ListN.{length, take}
use lib.Dec.{T, eqb}
use Rattle.bsii_format.specs.Reader.{Consumed, WellFormed}
use Rattle.bsii_format.specs.Strings.{Id, id_parser}
use Rattle.bsii_format.specs.Values.{Value}
use Rattle.bsii_format.specs.Prototypes.{ValuePrototype, Prototype, value_prototype_parser}
use Rattle.bsii_format.specs.Blocks.{DataValue, DataBlock, get_prototype, data_value_parser}
use Rattle.bsii_format.specs.File.{prototype, block, Head, carrying, head_parser, more, record_parser, record_bytes, define, define_all, prototypes_of}
use Rattle.bsii_format.proofs.Readers.{Fits, well_formed_fits}
use Rattle.bsii_format.proofs.Parsers.{value_prototype_exact}
use Rattle.bsii_format.proofs.Records.{GoodField, GoodFields, GoodValue, GoodValues, values_length, value_good, GoodPrototype, GoodBlock, GoodRecords, nil, cons, record_good}
use Rattle.bsii_widening.specs.Marks.{Mark, old, inserted, unmark, map_mark, all, MarkedPrototype, MarkedBlock, marked_prototype, marked_block, MarkedRecords, new_prototype, new_block, new_records, mark_prototype, mark_block}
use Rattle.bsii_widening.specs.Insertions.{insert_at, insert_if, into_prototype, into_block, insert_field, Insertion, a_field, a_prototype, a_block, insert, insert_all, has_name, DefinitionAllowed, ValueAllowed, ValuesAllowed, Allowed, AllAllowed, NoIdTwice}
use Rattle.bsii_widening.specs.Parts.{marked_prototypes, get_marked}
use Rattle.bsii_widening.proofs.Marks.{all_insert, all_insert_if, all_as_old, new_mark_prototype}
use Rattle.bsii_widening.proofs.Says.{HasText}
use Rattle.bsii_widening.proofs.Environments.{none≢some, some_inj, map_none, other_id, this_id, new_env, new_last, new_find, new_known, new_back, Agree, agree_refl, agree_cons, agree_new, agree_insert, block_insert, Widens, widens_nil, widens_cons, widens_defines, into_all, own_known}
use Rattle.bsii_widening.proofs.Fields.{fields_insert, values_insert, Says, says_insert, values_say, Aligned, aligned_insert, Distinct, distinct_insert}
use Rattle.bsii_widening.proofs.Once.{last_is_in_force, once_insert}

-- ---- well-formed parts

pub good_field : (d : Consumed ValuePrototype) → WellFormed value_prototype_parser (some d.value) d.raw → GoodField d
good_field d e = well_formed_fits value_prototype_exact e

pub good_prototype : (version : ℕ) (p : Prototype) → WellFormed (record_parser version []) (more (prototype p)) (record_bytes (prototype p)) → GoodPrototype p
good_prototype version p e = (record_good [] 0 (record_bytes (prototype p)) (more (prototype p)) (length (record_bytes (prototype p))) [] e).good

pub good_block : (version : ℕ) (env : List Prototype) (b : DataBlock) → WellFormed (record_parser version env) (more (block b)) (record_bytes (block b)) → GoodBlock version env b
good_block version env b e = (record_good env 0 (record_bytes (block b)) (more (block b)) (length (record_bytes (block b))) [] e).good

pub good_value : (version : ℕ) (d : Consumed ValuePrototype) (v : DataValue) → WellFormed (data_value_parser version d.value.type_id) v v.raw → GoodValue version d v
good_value version d v e = (value_good d 0 v.raw v (length v.raw) [] e).0

-- the definition that a new one goes into is the marked one of its id
pub its_definition : {n p : ℕ} {d : Consumed ValuePrototype} {M : MarkedRecords} (a : DefinitionAllowed n p d M) {m : Mark MarkedPrototype} → get_marked n (marked_prototypes M []) ≡ some m
    → a.of ≡ new_prototype (unmark m)
its_definition {n} {M = M} a e = some_inj (sym a.defined ∙ ap (get_prototype n) (new_last M) ∙ new_known n (marked_prototypes M []) e)

-- ---- the invariant

-- an old block under its last definition, which is an old one
pub record OldBlock (last : List (Mark MarkedPrototype)) (b : MarkedBlock) : Type 0 where
  pub by : MarkedPrototype
  pub found : get_marked b.prototype_id last ≡ some (old by)
  pub aligned : Aligned by.fields b.values
  pub distinct : Distinct by.fields

module _ (version : ℕ) (text : ValuePrototype → Value → Option (List ℕ)) where
  -- `by` is the definition in force, `by'` the last one
  pub record FineBlock (last env : List (Mark MarkedPrototype)) (b : MarkedBlock) : Type 0 where
    pub head : Fits Head head_parser (carrying b.prototype_id) b.head
    pub id : Fits Id id_parser b.id.value b.id.raw
    pub by : Mark MarkedPrototype
    pub found : get_marked b.prototype_id env ≡ some by
    pub values : GoodValues version (all (unmark by).fields) (all b.values)
    pub by' : Mark MarkedPrototype
    pub found' : get_marked b.prototype_id last ≡ some by'
    pub says : Says text (all (unmark by').fields) (all b.values)

  pub data Inv (last : List (Mark MarkedPrototype)) : List (Mark MarkedPrototype) → MarkedRecords → Type 0 where
    done : {env : List (Mark MarkedPrototype)} → Inv last env []
    prototype_old : {env : List (Mark MarkedPrototype)} {p : MarkedPrototype} {l : MarkedRecords} → GoodPrototype (new_prototype p) → Inv last (old p ∷ env) l → Inv last env (old (marked_prototype p) ∷ l)
    prototype_new : {env : List (Mark MarkedPrototype)} {p : MarkedPrototype} {l : MarkedRecords} → GoodPrototype (new_prototype p) → Inv last (inserted p ∷ env) l → Inv last env (inserted (marked_prototype p) ∷ l)
    block_old : {env : List (Mark MarkedPrototype)} {b : MarkedBlock} {l : MarkedRecords} → FineBlock last env b → OldBlock last b → Inv last env l → Inv last env (old (marked_block b) ∷ l)
    block_new : {env : List (Mark MarkedPrototype)} {b : MarkedBlock} {l : MarkedRecords} → FineBlock last env b → Inv last env l → Inv last env (inserted (marked_block b) ∷ l)

  abbrev pub Sound : MarkedRecords → Type 0
  Sound M = Inv (marked_prototypes M []) [] M

  -- the new file is well-formed
  pub inv_good : {last env : List (Mark MarkedPrototype)} {M : MarkedRecords} → Inv last env M → GoodRecords version (new_env env) (new_records M)
  unfolding new_records unmark define
  inv_good done = nil
  inv_good (prototype_old g h) = cons g (inv_good h)
  inv_good (prototype_new g h) = cons g (inv_good h)
  inv_good (block_old {env = env} {b = b} g o h) =
      cons {i = block (new_block b)} (record { head = g.head; id = g.id; by = new_prototype (unmark g.by); found = new_known b.prototype_id env g.found; values = g.values }) (inv_good h)
  inv_good (block_new {env = env} {b = b} g h) =
      cons {i = block (new_block b)} (record { head = g.head; id = g.id; by = new_prototype (unmark g.by); found = new_known b.prototype_id env g.found; values = g.values }) (inv_good h)

  -- ---- (i) a definition

  fine_into : HasText text → (n p : ℕ) (d : Consumed ValuePrototype) (v : DataValue) {last last' env env' : List (Mark MarkedPrototype)} {b : MarkedBlock}
      → Widens n p d last last' → Widens n p d env env' → ValueAllowed version n d v (marked_block b) → FineBlock last env b → FineBlock last' env' (into_block (eqb n b.prototype_id) p v b)
  unfolding insert_if
  fine_into has n p d v {last} {last'} {env} {env'} {b} wl we a g = go (eqb n b.prototype_id) refl
    where
      go : (c : Bool) → eqb n b.prototype_id ≡ c → FineBlock last' env' (into_block c p v b)
      go false q = record {
        head = g.head;
        id = g.id;
        by = g.by;
        found = we.agree.agrees b.prototype_id (other_id n b.prototype_id q) ∙ g.found;
        values = g.values;
        by' = g.by';
        found' = wl.agree.agrees b.prototype_id (other_id n b.prototype_id q) ∙ g.found';
        says = g.says;
      }
      go true q =
          let w = a (subst T (sym q) tt) in
          let t = has d.value v.value w.1 in
          record {
            head = g.head;
            id = g.id;
            by = map_mark (into_prototype true p d) g.by;
            found = own_known n p d b.prototype_id q we g.found;
            values = subst₂ (GoodValues version) (sym (into_all p d g.by)) (sym (all_insert p v b.values)) (values_insert p (good_value version d v w.0) g.values);
            by' = map_mark (into_prototype true p d) g.by';
            found' = own_known n p d b.prototype_id q wl g.found';
            says = subst₂ (Says text) (sym (into_all p d g.by')) (sym (all_insert p v b.values)) (says_insert p d v t.0 t.1 g.says);
          }

  pub prototype_into : (c : Bool) (p : ℕ) (d : Consumed ValuePrototype) (m : MarkedPrototype) → GoodField d → GoodPrototype (new_prototype m) → GoodPrototype (new_prototype (into_prototype c p d m))
  prototype_into c p d m g h = record {
    head = h.head;
    fields = subst GoodFields (sym (all_insert_if c p d m.fields)) (fields_insert c p g h.fields);
    last = h.last;
  }

  -- the name is none of the last definition's
  abbrev NewName : ℕ → Consumed ValuePrototype → List (Mark MarkedPrototype) → Type 0
  NewName n d last = (m : Mark MarkedPrototype) → get_marked n last ≡ some m → T (not (has_name d.value.name (all (unmark m).fields)))

  old_into : (n p : ℕ) (d : Consumed ValuePrototype) (v : DataValue) {last last' : List (Mark MarkedPrototype)} {b : MarkedBlock} → Widens n p d last last' → NewName n d last
      → OldBlock last b → OldBlock last' (into_block (eqb n b.prototype_id) p v b)
  unfolding insert_if map_mark unmark
  old_into n p d v {last} {last'} {b} wl a o = go (eqb n b.prototype_id) refl
    where
      go : (c : Bool) → eqb n b.prototype_id ≡ c → OldBlock last' (into_block c p v b)
      go false q = record { by = o.by; found = wl.agree.agrees b.prototype_id (other_id n b.prototype_id q) ∙ o.found; aligned = o.aligned; distinct = o.distinct }
      go true q = record {
        by = into_prototype true p d o.by;
        found = own_known n p d b.prototype_id q wl o.found;
        aligned = aligned_insert p d v o.aligned;
        distinct = distinct_insert p d o.by.fields (a (old o.by) (ap (λ z. get_marked z last) (this_id n b.prototype_id q) ∙ o.found)) o.distinct;
      }

  inv_into : HasText text → (n p : ℕ) (d : Consumed ValuePrototype) (v : ℕ → DataValue) {last last' env env' : List (Mark MarkedPrototype)} (k : ℕ) {M : MarkedRecords}
      → GoodField d → NewName n d last → Widens n p d last last' → Widens n p d env env' → ValuesAllowed version n d v k M → Inv last env M → Inv last' env' (insert_field n p d v k M)
  unfolding insert_field map_mark unmark
  inv_into has n p d v k g a wl we x done = done
  inv_into has n p d v k g a wl we x (prototype_old {p = m} h i) =
      prototype_old (prototype_into (eqb n m.id) p d m g h) (inv_into has n p d v k g a wl (widens_cons n p d (old m) we) x.1 i)
  inv_into has n p d v k g a wl we x (prototype_new {p = m} h i) =
      prototype_new (prototype_into (eqb n m.id) p d m g h) (inv_into has n p d v k g a wl (widens_cons n p d (inserted m) we) x.1 i)
  inv_into has n p d v k g a wl we x (block_old h o i) =
      block_old (fine_into has n p d (v k) wl we x.0 h) (old_into n p d (v k) wl a o) (inv_into has n p d v (suc k) g a wl we x.1 i)
  inv_into has n p d v k g a wl we x (block_new h i) = block_new (fine_into has n p d (v k) wl we x.0 h) (inv_into has n p d v (suc k) g a wl we x.1 i)

  -- ---- (ii) a prototype under a new id

  -- a block's id is defined, so it is not the new one
  other : {last env : List (Mark MarkedPrototype)} {b : MarkedBlock} (x : ℕ) → get_marked x last ≡ none → FineBlock last env b → b.prototype_id ≡ x → ⊥
  other {last} {env} {b} x u g e = none≢some (sym u ∙ ap (λ z. get_marked z last) (sym e) ∙ g.found')

  fine_agree : (x : ℕ) {last last' env env' : List (Mark MarkedPrototype)} {b : MarkedBlock} → get_marked x last ≡ none → Agree x last last' → Agree x env env' → FineBlock last env b → FineBlock last' env' b
  fine_agree x {b = b} u a a' g = record {
    head = g.head;
    id = g.id;
    by = g.by;
    found = a'.agrees b.prototype_id (other x u g) ∙ g.found;
    values = g.values;
    by' = g.by';
    found' = a.agrees b.prototype_id (other x u g) ∙ g.found';
    says = g.says;
  }

  old_agree : (x : ℕ) {last last' : List (Mark MarkedPrototype)} {b : MarkedBlock} → (b.prototype_id ≡ x → ⊥) → Agree x last last' → OldBlock last b → OldBlock last' b
  old_agree x {b = b} n a o = record { by = o.by; found = a.agrees b.prototype_id n ∙ o.found; aligned = o.aligned; distinct = o.distinct }

  inv_agree : (x : ℕ) {last last' env env' : List (Mark MarkedPrototype)} {M : MarkedRecords} → get_marked x last ≡ none → Agree x last last' → Agree x env env' → Inv last env M → Inv last' env' M
  inv_agree x u a a' done = done
  inv_agree x u a a' (prototype_old {p = p} h i) = prototype_old h (inv_agree x u a (agree_cons x (old p) a') i)
  inv_agree x u a a' (prototype_new {p = p} h i) = prototype_new h (inv_agree x u a (agree_cons x (inserted p) a') i)
  inv_agree x u a a' (block_old h o i) = block_old (fine_agree x u a a' h) (old_agree x (other x u h) a o) (inv_agree x u a a' i)
  inv_agree x u a a' (block_new h i) = block_new (fine_agree x u a a' h) (inv_agree x u a a' i)

  inv_prototype : (k : ℕ) (p : MarkedPrototype) {last last' env : List (Mark MarkedPrototype)} {M : MarkedRecords} → GoodPrototype (new_prototype p) → get_marked p.id last ≡ none → Agree p.id last last'
      → Inv last env M → Inv last' env (insert_at k (inserted (marked_prototype p)) M)
  unfolding insert_at unmark
  inv_prototype zero p {env = env} g u a i = prototype_new g (inv_agree p.id u a (agree_new (inserted p) env) i)
  inv_prototype (suc k) p g u a done = prototype_new g done
  inv_prototype (suc k) p g u a (prototype_old h i) = prototype_old h (inv_prototype k p g u a i)
  inv_prototype (suc k) p g u a (prototype_new h i) = prototype_new h (inv_prototype k p g u a i)
  inv_prototype (suc k) p {env = env} g u a (block_old h o i) =
      block_old (fine_agree p.id u a (agree_refl p.id env) h) (old_agree p.id (other p.id u h) a o) (inv_prototype k p g u a i)
  inv_prototype (suc k) p {env = env} g u a (block_new h i) = block_new (fine_agree p.id u a (agree_refl p.id env) h) (inv_prototype k p g u a i)

  -- ---- (iii) a block

  -- what a block's bytes are read as does not turn on how its definition is marked
  fine_block : {last env : List (Mark MarkedPrototype)} (b : DataBlock) (by : Prototype) → get_prototype b.prototype_id (new_env last) ≡ some by → Says text by.fields b.values
      → GoodBlock version (new_env env) b → FineBlock last env (mark_block b)
  unfolding mark_block
  fine_block {last} {env} b by e h g =
      let x = new_back b.prototype_id env g.found in
      let y = new_back b.prototype_id last e in
      record {
        head = g.head;
        id = g.id;
        by = x.0;
        found = x.1;
        values = subst₂ (GoodValues version) (ap (λ (p : Prototype). p.fields) (sym x.2)) (sym (all_as_old b.values)) g.values;
        by' = y.0;
        found' = y.1;
        says = subst₂ (Says text) (ap (λ (p : Prototype). p.fields) (sym y.2)) (sym (all_as_old b.values)) h;
      }

  inv_block : (k : ℕ) (b : DataBlock) (by : Prototype) {last env : List (Mark MarkedPrototype)} {M : MarkedRecords} → get_prototype b.prototype_id (new_env last) ≡ some by → Says text by.fields b.values
      → GoodBlock version (define_all (take k (new_records M)) (new_env env)) b → Inv last env M → Inv last env (insert_at k (inserted (marked_block (mark_block b))) M)
  unfolding insert_at new_records unmark define_all define
  inv_block zero b by e h g i = block_new (fine_block b by e h g) i
  inv_block (suc k) b by e h g done = block_new (fine_block b by e h g) done
  inv_block (suc k) b by e h g (prototype_old x i) = prototype_old x (inv_block k b by e h g i)
  inv_block (suc k) b by e h g (prototype_new x i) = prototype_new x (inv_block k b by e h g i)
  inv_block (suc k) b by e h g (block_old x o i) = block_old x o (inv_block k b by e h g i)
  inv_block (suc k) b by e h g (block_new x i) = block_new x (inv_block k b by e h g i)

  -- ---- every insertion

  new_name_law : (n p : ℕ) (d : Consumed ValuePrototype) (M : MarkedRecords) → DefinitionAllowed n p d M → NewName n d (marked_prototypes M [])
  new_name_law n p d M a m e = subst (λ (y : Prototype). T (not (has_name d.value.name y.fields))) (its_definition a e) a.new_name

  pub sound_insert : HasText text → (i : Insertion) (M : MarkedRecords) → Allowed version i M → NoIdTwice (new_records M) → Sound M → Sound (insert i M)
  unfolding insert mark_prototype prototypes_of
  sound_insert has (a_field n p d v) M a o h =
      inv_into has n p d v 0 (good_field d a.definition.well_formed) (new_name_law n p d M a.definition)
      (widens_defines n p d v 0 M (widens_nil n p d)) (widens_nil n p d) a.values h
  sound_insert has (a_prototype k p) M a o h =
      inv_prototype k (mark_prototype p) (subst GoodPrototype (sym (new_mark_prototype p)) (good_prototype version p a.well_formed))
      (map_none (λ (m : Mark MarkedPrototype). new_prototype (unmark m)) (get_marked p.id (marked_prototypes M []))
      (sym (new_find p.id (marked_prototypes M [])) ∙ ap (get_prototype p.id) (sym (new_last M)) ∙ a.undefined))
      (agree_insert k (mark_prototype p) M []) h
  sound_insert has (a_block k b) M a o h =
      let g = good_block version (prototypes_of (take k (new_records M))) b a.well_formed in
      let e = last_is_in_force b.prototype_id k (new_records M) o g.found in
      subst (λ l. Inv l [] (insert_at k (inserted (marked_block (mark_block b))) M)) (sym (block_insert k (mark_block b) M []))
      (inv_block k b g.by (ap (get_prototype b.prototype_id) (sym (new_last M)) ∙ e)
      (values_say has g.by.fields g.values (values_length g.values) (a.enums g.by e)) g h)

  pub sound_all : HasText text → (l : List Insertion) (M : MarkedRecords) → AllAllowed version l M → NoIdTwice (new_records M) → Sound M → Sound (insert_all l M)
  unfolding insert_all
  sound_all has [] M a o h = h
  sound_all has (i ∷ l) M a o h = sound_all has l (insert i M) a.1 (once_insert version i M a.0 o) (sound_insert has i M a.0 o h)
