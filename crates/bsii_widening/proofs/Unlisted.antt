-- A last definition of an unlisted type: the records in front of the first block of its id are read as before, and that block is refused at the value's
-- start, where its own reader fails; where there is no such block nothing is asked of the values.
use mathlib.Core.Path.{◌≡◌, refl, sym, ap, ap₂, ◌∙◌, subst}
use Prim.Native.Nat.{ℕ, zero, suc, ◌+◌, ◌≤◌}
use native.Mathlib.Nat.{add_assoc, add-zero, zero-add}
use native.Mathlib.Omega.{arith}
use mathlib.Core.Bool.{Bool, true, false, cond}
use mathlib.Core.Option.{Option, none, some}
use mathlib.Core.List.{List, [], ◌∷◌, ◌++◌, append_assoc}
use lib.ListN.{length, take, length-append}
use lib.Dec.{T, eqb}
use Rattle.bsii_format.specs.Replies.{Fault, unlisted_type}
use Rattle.bsii_format.specs.Reader.{fault, fault_at, after, ◌>>=◌, ◌<$>◌, fail, Consumed, consumed, WellFormed}
use Rattle.bsii_format.specs.Strings.{Id, id_parser}
use Rattle.bsii_format.specs.Types.{shape_of}
use Rattle.bsii_format.specs.Values.{Value, value_parser, shape_parser}
use Rattle.bsii_format.specs.Prototypes.{ValuePrototype, Prototype}
use Rattle.bsii_format.specs.Blocks.{DataValue, DataBlock, get_prototype, data_value_parser, data_values_parser}
use Rattle.bsii_format.specs.File.{Record, prototype, block, Head, carrying, head_parser, block_step, data_block_parser, step_parser, record_parser, define, distinct_ids, cons_record, records_from, records_parser, header_parser, BsiiFile, bsii_file, bsii_parser, values_bytes, record_bytes, records_bytes, file_bytes, define_all}
use Rattle.bsii_format.specs.BlockText.{values_offset}
use Rattle.bsii_format.proofs.Readers.{Fits, fault≢ok, map_fault, consumed_fits}
use Rattle.bsii_format.proofs.Records.{GoodField, GoodValues, nil, cons, value_fits, GoodRecord, records_step, room_for, ids_define_all, head_takes}
use Rattle.bsii_widening.specs.Marks.{Mark, old, inserted, unmark, map_mark, all, MarkedPrototype, MarkedBlock, marked_prototype, marked_block, MarkedRecords, new_prototype, new_block, new_records}
use Rattle.bsii_widening.specs.Insertions.{insert_at, insert_if, into_prototype, into_block, insert_field, ValuesAllowed}
use Rattle.bsii_widening.specs.Parts.{get_marked}
use Rattle.bsii_widening.specs.Claim.{first_carried}
use Rattle.bsii_widening.proofs.Marks.{all_insert}
use Rattle.bsii_widening.proofs.Environments.{none≢some, some_inj, other_id, this_id, new_env, new_known, Widens, widens_cons, into_all, own_known}
use Rattle.bsii_widening.proofs.Fields.{says_length}
use Rattle.bsii_widening.proofs.Invariant.{FineBlock, Inv, done, prototype_old, prototype_new, block_old, block_new, prototype_into}

-- ---- one block

-- "refused before any byte of the value"
unlisted_value : (version t : ℕ) → shape_of version t ≡ none → (at : ℕ) (s : List ℕ) → data_value_parser version t at s ≡ fault_at unlisted_type at
unfolding data_value_parser ◌<$>◌ ◌>>=◌ consumed after value_parser shape_parser fail
unlisted_value version t e at s = rw e

-- so a well-formed value has a listed type, and `Allowed` need not ask for it
pub listed : (version t : ℕ) {v : DataValue} (c : List ℕ) → WellFormed (data_value_parser version t) v c → shape_of version t ≡ none → ⊥
listed version t c w e = fault≢ok (sym (unlisted_value version t e 0 c) ∙ w)

-- whatever bytes the value has
values_fault : (version p : ℕ) (d : Consumed ValuePrototype) (v : DataValue) {fs : List (Consumed ValuePrototype)} {l : List DataValue} → shape_of version d.value.type_id ≡ none → GoodValues version fs l → p ≤ length l
    → (b : ℕ) (t : List ℕ) → data_values_parser version (insert_at p d fs) b (values_bytes (insert_at p v l) ++ t) ≡ fault_at unlisted_type (b + length (values_bytes (take p (insert_at p v l))))
unfolding data_values_parser insert_at values_bytes ◌>>=◌ after ◌<$>◌
values_fault version zero d v {fs} {l} e g h b t = rw (unlisted_value version d.value.type_id e b (v.raw ++ values_bytes l ++ t), add-zero)
values_fault version (suc p) d v e nil h b t = absurd (omega arith)
values_fault version (suc p) d v e (cons {f = x} {fs = fs} {v = y} {l = l} g k) h b t =
    rw (append_assoc, (value_fits g).reads b (values_bytes (insert_at p v l) ++ t), length-append y.raw (values_bytes (take p (insert_at p v l))), ← add_assoc)
    (map_fault (λ z. y ∷ z) (data_values_parser version (insert_at p d fs)) (b + length y.raw) (values_bytes (insert_at p v l) ++ t)
    (values_fault version p d v e k (omega arith) (b + length y.raw) t))

block_fault : (version : ℕ) (env : List Prototype) (b : DataBlock) (q : Prototype) (p : ℕ) (d : Consumed ValuePrototype) (v : DataValue) (fs : List (Consumed ValuePrototype)) (l : List DataValue)
    → Fits Head head_parser (carrying b.prototype_id) b.head → Fits Id id_parser b.id.value b.id.raw → get_prototype b.prototype_id env ≡ some q
    → q.fields ≡ insert_at p d fs → b.values ≡ insert_at p v l → shape_of version d.value.type_id ≡ none → GoodValues version fs l → p ≤ length l → (at : ℕ) (t : List ℕ)
    → record_parser version env at (record_bytes (block b) ++ t) ≡ fault_at unlisted_type (values_offset at b + length (values_bytes (take p b.values)))
unfolding record_parser after record_bytes step_parser data_block_parser ◌>>=◌ values_offset
block_fault version env b q p d v fs l h i k e u x g o at t =
    rw (
      append_assoc b.head (b.id.raw ++ values_bytes b.values) t,
      append_assoc b.id.raw (values_bytes b.values) t,
      (consumed_fits h).reads at (b.id.raw ++ (values_bytes b.values ++ t)),
      k,
      (consumed_fits i).reads (at + length b.head) (values_bytes b.values ++ t),
    )
    (map_fault (block_step b.head b.prototype_id b.id) (data_values_parser version q.fields) (at + length b.head + length b.id.raw) (values_bytes b.values ++ t)
    (rw (e, u) (values_fault version p d v x g o (at + length b.head + length b.id.raw) t)))

-- ---- the records up to it

records_stop : (version rooms m : ℕ) (env : List Prototype) (at : ℕ) (s : List ℕ) {x : Fault} → record_parser version env at s ≡ fault x → records_from version rooms (suc m) env at s ≡ fault x
unfolding records_from after
records_stop version rooms m env at s e = rw e

-- one good record in front of a fault
records_past : (version rooms m : ℕ) (env : List Prototype) (i : Record) (l : List Record) (at : ℕ) (t : List ℕ) {x : Fault} → GoodRecord version env i → distinct_ids (define_all (i ∷ l) env) ≤ rooms
    → records_from version rooms m (define i env) (at + length (record_bytes i)) (records_bytes l ++ t) ≡ fault x → records_from version rooms (suc m) env at (records_bytes (i ∷ l) ++ t) ≡ fault x
unfolding records_bytes define_all
records_past version rooms m env i l at t g o e =
    rw (append_assoc, records_step version rooms m env i g (room_for rooms i env (omega (arith, ids_define_all l (define i env)))) at (records_bytes l ++ t))
    (map_fault (cons_record i) (records_from version rooms m (define i env)) (at + length (record_bytes i)) (records_bytes l ++ t) e)

module _ (version : ℕ) (text : ValuePrototype → Value → Option (List ℕ)) (rooms n p : ℕ) (d : Consumed ValuePrototype) (v : ℕ → DataValue) (last : List (Mark MarkedPrototype)) (g : GoodField d)
    (u : shape_of version d.value.type_id ≡ none) (inside : (m : Mark MarkedPrototype) → get_marked n last ≡ some m → p ≤ length (all (unmark m).fields)) where
  abbrev Stops : List (Mark MarkedPrototype) → ℕ → MarkedRecords → ℕ → Type 0
  Stops env' k M m = (at : ℕ) (t : List ℕ) (x : ℕ) → first_carried n p at (new_records (insert_field n p d v k M)) ≡ some x
      → distinct_ids (define_all (new_records (insert_field n p d v k M)) (new_env env')) ≤ rooms
      → records_from version rooms m (new_env env') at (records_bytes (new_records (insert_field n p d v k M)) ++ t) ≡ fault_at unlisted_type x

  at_block : (k m : ℕ) (env env' : List (Mark MarkedPrototype)) (b : MarkedBlock) (l : MarkedRecords) → Widens n p d env env' → FineBlock version text last env b → Stops env' (suc k) l m
      → (at : ℕ) (t : List ℕ) (x : ℕ) → first_carried n p at (block (new_block (into_block (eqb n b.prototype_id) p (v k) b)) ∷ new_records (insert_field n p d v (suc k) l)) ≡ some x
      → distinct_ids (define_all (block (new_block (into_block (eqb n b.prototype_id) p (v k) b)) ∷ new_records (insert_field n p d v (suc k) l)) (new_env env')) ≤ rooms
      → records_from version rooms (suc m) (new_env env') at (records_bytes (block (new_block (into_block (eqb n b.prototype_id) p (v k) b)) ∷ new_records (insert_field n p d v (suc k) l)) ++ t) ≡ fault_at unlisted_type x
  unfolding first_carried insert_if records_bytes define_all define values_offset
  at_block k m env env' b l we h ih at t x e r = go (eqb n b.prototype_id) refl e r
    where
      L : List Record
      L = new_records (insert_field n p d v (suc k) l)

      go : (c : Bool) → eqb n b.prototype_id ≡ c
          → cond c (some (at + length b.head + length b.id.raw + length (values_bytes (take p (all (insert_if c p (inserted (v k)) b.values))))))
          (first_carried n p (at + length (record_bytes (block (new_block (into_block c p (v k) b))))) L) ≡ some x
          → distinct_ids (define_all (block (new_block (into_block c p (v k) b)) ∷ L) (new_env env')) ≤ rooms
          → records_from version rooms (suc m) (new_env env') at (records_bytes (block (new_block (into_block c p (v k) b)) ∷ L) ++ t) ≡ fault_at unlisted_type x
      go true q z r =
          records_stop version rooms m (new_env env') at (record_bytes (block (new_block (into_block true p (v k) b))) ++ records_bytes L ++ t)
          (ap (record_parser version (new_env env') at) (append_assoc (record_bytes (block (new_block (into_block true p (v k) b)))) (records_bytes L) t)
          ∙ block_fault version (new_env env') (new_block (into_block true p (v k) b)) (new_prototype (unmark (map_mark (into_prototype true p d) h.by))) p d (v k) (all (unmark h.by).fields) (all b.values) h.head h.id
          (new_known b.prototype_id env' (own_known n p d b.prototype_id q we h.found))
          (into_all p d h.by)
          (all_insert p (v k) b.values)
          u h.values
          (omega (arith, inside h.by' (ap (λ c. get_marked c last) (this_id n b.prototype_id q) ∙ h.found'), says_length h.says))
          at (records_bytes L ++ t)
          ∙ ap (λ i. fault_at unlisted_type i) (some_inj z))
      go false q z r =
          records_past version rooms m (new_env env') (block (new_block b)) L at t
          (record { head = h.head; id = h.id; by = new_prototype (unmark h.by); found = new_known b.prototype_id env' (we.agree.agrees b.prototype_id (other_id n b.prototype_id q) ∙ h.found); values = h.values }) r
          (ih (at + length (record_bytes (block (new_block b)))) t x z r)

  stops : (k m : ℕ) {env env' : List (Mark MarkedPrototype)} {M : MarkedRecords} → Widens n p d env env' → Inv version text last env M → length M ≤ m → Stops env' k M m
  unfolding new_records insert_field first_carried unmark map_mark define_all define
  stops k m we done l at t x e r = none≢some e
  stops k zero we (prototype_old h i) l at t x e r = absurd (omega arith)
  stops k zero we (prototype_new h i) l at t x e r = absurd (omega arith)
  stops k zero we (block_old h o i) l at t x e r = absurd (omega arith)
  stops k zero we (block_new h i) l at t x e r = absurd (omega arith)
  stops k (suc m) {env} {env'} we (prototype_old {p = q} {l = z} h i) l at t x e r =
      records_past version rooms m (new_env env') (prototype (new_prototype (into_prototype (eqb n q.id) p d q))) (new_records (insert_field n p d v k z)) at t
      (prototype_into version text (eqb n q.id) p d q g h) r
      (stops k m (widens_cons n p d (old q) we) i (omega arith) (at + length (record_bytes (prototype (new_prototype (into_prototype (eqb n q.id) p d q))))) t x e r)
  stops k (suc m) {env} {env'} we (prototype_new {p = q} {l = z} h i) l at t x e r =
      records_past version rooms m (new_env env') (prototype (new_prototype (into_prototype (eqb n q.id) p d q))) (new_records (insert_field n p d v k z)) at t
      (prototype_into version text (eqb n q.id) p d q g h) r
      (stops k m (widens_cons n p d (inserted q) we) i (omega arith) (at + length (record_bytes (prototype (new_prototype (into_prototype (eqb n q.id) p d q))))) t x e r)
  stops k (suc m) {env} {env'} we (block_old {b = b} {l = z} h o i) l at t x e r = at_block k m env env' b z we h (stops (suc k) m we i (omega arith)) at t x e r
  stops k (suc m) {env} {env'} we (block_new {b = b} {l = z} h i) l at t x e r = at_block k m env env' b z we h (stops (suc k) m we i (omega arith)) at t x e r

  -- each record takes a byte at least, whatever the values
  insert_long : {lst env : List (Mark MarkedPrototype)} (k : ℕ) {M : MarkedRecords} → Inv version text lst env M → length M ≤ length (records_bytes (new_records (insert_field n p d v k M)))
  unfolding new_records insert_field map_mark unmark records_bytes record_bytes
  insert_long k done = omega arith
  insert_long k (prototype_old h i) = rw (length-append, length-append) (omega (arith, head_takes h.head, insert_long k i))
  insert_long k (prototype_new h i) = rw (length-append, length-append) (omega (arith, head_takes h.head, insert_long k i))
  insert_long k (block_old h o i) = rw (length-append, length-append) (omega (arith, head_takes h.head, insert_long (suc k) i))
  insert_long k (block_new h i) = rw (length-append, length-append) (omega (arith, head_takes h.head, insert_long (suc k) i))

  -- the whole file
  pub file_stops : (f : BsiiFile) (r : List ℕ) (x : ℕ) {M : MarkedRecords} → Fits ℕ header_parser f.header.value f.header.raw → f.header.value ≡ version → f.records ≡ new_records (insert_field n p d v 0 M)
      → Widens n p d [] [] → Inv version text last [] M → distinct_ids (define_all f.records []) ≤ rooms
      → first_carried n p (length f.header.raw) f.records ≡ some x → bsii_parser rooms 0 (file_bytes f ++ r) ≡ fault_at unlisted_type x
  unfolding bsii_parser file_bytes ◌>>=◌ after records_parser
  file_stops f r x {M} h w q we i o e =
      let long : length M ≤ length (records_bytes f.records ++ f.end ++ r) = rw (length-append, length-append) (omega (arith, insert_long 0 i, ap (λ z. length (records_bytes z)) q)) in
      let body : records_from version rooms (length (records_bytes f.records ++ f.end ++ r)) [] (length f.header.raw) (records_bytes f.records ++ f.end ++ r) ≡ fault_at unlisted_type x =
      ap₂ (λ (z : List Record) (y : List ℕ). records_from version rooms (length (records_bytes f.records ++ f.end ++ r)) [] (length f.header.raw) y) q
      (append_assoc (records_bytes f.records) f.end r ∙ ap (λ z. records_bytes z ++ (f.end ++ r)) q)
      ∙ stops 0 (length (records_bytes f.records ++ f.end ++ r)) we i long (length f.header.raw) (f.end ++ r) x
      (ap (first_carried n p (length f.header.raw)) (sym q) ∙ e) (subst (λ z. distinct_ids (define_all z []) ≤ rooms) q o) in
      rw (append_assoc f.header.raw (records_bytes f.records ++ f.end) r, (consumed_fits h).reads 0 (records_bytes f.records ++ f.end ++ r), zero-add)
      (map_fault (bsii_file f.header) (records_parser f.header.value rooms) (length f.header.raw) (records_bytes f.records ++ f.end ++ r)
      (subst (λ (y : ℕ). records_parser y rooms (length f.header.raw) (records_bytes f.records ++ f.end ++ r) ≡ fault_at unlisted_type x) (sym w) body))

-- ---- no block of the id: nothing is asked of the values

cond_none : {A : Type 0} (b : Bool) (x : A) (o : Option A) → cond b (some x) o ≡ none → (T b → ⊥) × (o ≡ none)
cond_none true x o e = none≢some (sym e)
cond_none false x o e = ((λ h. h), e)

pub no_values : (version n p : ℕ) (d : Consumed ValuePrototype) (v : ℕ → DataValue) (k at : ℕ) (M : MarkedRecords) → first_carried n p at (new_records (insert_field n p d v k M)) ≡ none → ValuesAllowed version n d v k M
unfolding new_records insert_field map_mark unmark first_carried
no_values version n p d v k at [] e = tt
no_values version n p d v k at (old (marked_prototype m) ∷ l) e = (tt, no_values version n p d v k (at + length (record_bytes (prototype (new_prototype (into_prototype (eqb n m.id) p d m))))) l e)
no_values version n p d v k at (inserted (marked_prototype m) ∷ l) e = (tt, no_values version n p d v k (at + length (record_bytes (prototype (new_prototype (into_prototype (eqb n m.id) p d m))))) l e)
no_values version n p d v k at (old (marked_block b) ∷ l) e =
    let x = cond_none (eqb n b.prototype_id) _ (first_carried n p (at + length (record_bytes (block (new_block (into_block (eqb n b.prototype_id) p (v k) b))))) (new_records (insert_field n p d v (suc k) l))) e in
    ((λ h. absurd (x.0 h)), no_values version n p d v (suc k) (at + length (record_bytes (block (new_block (into_block (eqb n b.prototype_id) p (v k) b))))) l x.1)
no_values version n p d v k at (inserted (marked_block b) ∷ l) e =
    let x = cond_none (eqb n b.prototype_id) _ (first_carried n p (at + length (record_bytes (block (new_block (into_block (eqb n b.prototype_id) p (v k) b))))) (new_records (insert_field n p d v (suc k) l))) e in
    ((λ h. absurd (x.0 h)), no_values version n p d v (suc k) (at + length (record_bytes (block (new_block (into_block (eqb n b.prototype_id) p (v k) b))))) l x.1)
