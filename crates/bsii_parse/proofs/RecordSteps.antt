-- A record by its head: what the record reader gives where the head, the definitions, the id and the values are known.
use mathlib.Core.Path.{◌≡◌, refl, sym, ap, ◌∙◌}
use Prim.Native.Nat.{ℕ, ◌-◌}
use mathlib.Core.Option.{none, some}
use mathlib.Core.List.{List}
use lib.ListN.{take}
use Rattle.bsii_format.specs.Replies.{Fault, undefined_prototype}
use Rattle.bsii_format.specs.Reader.{Result, ok, fault, fault_at, after, ◌>>=◌, success, ◌<$>◌, Consumed, with, consumed}
use Rattle.bsii_format.specs.Strings.{Id, id_parser}
use Rattle.bsii_format.specs.Prototypes.{Prototype, Fields, fields_parser}
use Rattle.bsii_format.specs.Blocks.{DataValue, DataBlock, get_prototype, data_values_parser}
use Rattle.bsii_format.specs.File.{prototype, block, Head, ending, defining, carrying, head_parser, Step, end, more, prototype_step, block_step, data_block_parser, step_parser, record_parser}
use Rattle.bsii_format.proofs.Readers.{fault≢ok}
use Rattle.bsii_format.proofs.Positions.{ended, ended_after, ended_consumed, ended_map}

-- a prototype, as the head and the definitions say
unfoldable pub prototype_of : (at : ℕ) (s : List ℕ) → ℕ → List ℕ → ℕ → Fields → Prototype
prototype_of at s id name n l = record { head = take (n - at) s; id = id; name = name; fields = l.fields; terminator = l.terminator }

module _ (version : ℕ) (env : List Prototype) (at : ℕ) (s : List ℕ) where
  -- the head's bytes, and the record behind it
  headed : (h : Head) (n : ℕ) (r : List ℕ) → head_parser at s ≡ ok h n r → record_parser version env at s ≡ step_parser version env at (take (n - at) s) h n r
  unfolding record_parser consumed after
  headed h n r e = rw e

  pub record_fault : {f : Fault} → head_parser at s ≡ fault f → record_parser version env at s ≡ fault f
  unfolding record_parser consumed after
  record_fault e = rw e

  pub record_end : {n : ℕ} {r : List ℕ} → head_parser at s ≡ ok ending n r → record_parser version env at s ≡ ok (end (take (n - at) s)) n r
  unfolding step_parser success
  record_end {n} {r} e = headed ending n r e

  pub record_prototype : {id : ℕ} {name : List ℕ} {n : ℕ} {r : List ℕ} {l : Fields} {m : ℕ} {t : List ℕ} → head_parser at s ≡ ok (defining id name) n r → fields_parser n r ≡ ok l m t
      → record_parser version env at s ≡ ok (more (prototype (prototype_of at s id name n l))) m t
  unfolding step_parser prototype_step ◌<$>◌ ◌>>=◌ after success prototype_of
  record_prototype {id} {name} {n} {r} e k = headed (defining id name) n r e ∙ rw k

  pub record_fields_fault : {id : ℕ} {name : List ℕ} {n : ℕ} {r : List ℕ} {f : Fault} → head_parser at s ≡ ok (defining id name) n r → fields_parser n r ≡ fault f → record_parser version env at s ≡ fault f
  unfolding step_parser ◌<$>◌ ◌>>=◌ after
  record_fields_fault {id} {name} {n} {r} e k = headed (defining id name) n r e ∙ rw k

  -- a block of an id that is not defined
  pub record_undefined : {id : ℕ} {n : ℕ} {r : List ℕ} → head_parser at s ≡ ok (carrying id) n r → get_prototype id env ≡ none → record_parser version env at s ≡ fault_at undefined_prototype at
  unfolding step_parser data_block_parser
  record_undefined {id} {n} {r} e k = headed (carrying id) n r e ∙ ap (λ o. data_block_parser version at (take (n - at) s) id o n r) k

  -- a block under its definition in force ends where its id and its values do
  block_as : {id : ℕ} {n : ℕ} {r : List ℕ} {p : Prototype} → head_parser at s ≡ ok (carrying id) n r → get_prototype id env ≡ some p
      → record_parser version env at s ≡ (consumed id_parser >>= (λ i. block_step (take (n - at) s) id i <$> data_values_parser version p.fields)) n r
  unfolding step_parser data_block_parser
  block_as {id} {n} {r} e k = headed (carrying id) n r e ∙ ap (λ o. data_block_parser version at (take (n - at) s) id o n r) k

  block_ended : {id : ℕ} {n : ℕ} {r : List ℕ} {p : Prototype} → head_parser at s ≡ ok (carrying id) n r → get_prototype id env ≡ some p
      → ended (record_parser version env at s) ≡ ended ((id_parser >>= (λ i. data_values_parser version p.fields)) n r)
  unfolding ◌>>=◌
  block_ended {id} {n} {r} {p} e k =
      ap ended (block_as e k)
      ∙ ended_after (consumed id_parser n r) (id_parser n r) (λ i. block_step (take (n - at) s) id i <$> data_values_parser version p.fields) (λ i. data_values_parser version p.fields)
      (ended_consumed id_parser n r) (λ a b i t. ended_map (block_step (take (n - at) s) id a) (data_values_parser version p.fields) i t)

-- ---- results by their ends

is_fault : {A : Type 0} (q : Result A) {f : Fault} → ended q ≡ fault f → q ≡ fault f
unfolding ended
is_fault (ok a at r) e = fault≢ok (sym e)
is_fault (fault x) e = cc

is_ok : {A : Type 0} (q : Result A) {n : ℕ} {r : List ℕ} → ended q ≡ ok tt n r → (a : A) × (q ≡ ok a n r)
unfolding ended
is_ok (ok a at t) e = (a, cc)
is_ok (fault x) e = fault≢ok e

module _ (version : ℕ) (env : List Prototype) (at : ℕ) (s : List ℕ) {id n : ℕ} {r : List ℕ} {p : Prototype} (e : head_parser at s ≡ ok (carrying id) n r) (k : get_prototype id env ≡ some p) where
  pub record_block_fault : {f : Fault} → ended ((id_parser >>= (λ i. data_values_parser version p.fields)) n r) ≡ fault f
      → record_parser version env at s ≡ fault f
  record_block_fault h = is_fault (record_parser version env at s) (block_ended version env at s e k ∙ h)

  -- where the record is accepted, its id and values are
  pub block_accepted : {z : Step} {m : ℕ} {t : List ℕ} → record_parser version env at s ≡ ok z m t
      → (l : List DataValue) × ((id_parser >>= (λ i. data_values_parser version p.fields)) n r ≡ ok l m t)
  unfolding ended
  block_accepted h = is_ok ((id_parser >>= (λ i. data_values_parser version p.fields)) n r) (sym (block_ended version env at s e k) ∙ ap ended h)

  is_block_law : {z : Step} {m : ℕ} {t : List ℕ} → record_parser version env at s ≡ ok z m t → (b : DataBlock) × (z ≡ more (block b)) × (b.prototype_id ≡ id)
  unfolding ◌>>=◌ ◌<$>◌ after success block_step consumed
  is_block_law {z} {m} {t} h = go (id_parser n r) (sym (block_as version env at s e k) ∙ h)
    where
      values : (i : Consumed Id) (q : Result (List DataValue)) → after q (λ l. success (block_step (take (n - at) s) id i l)) ≡ ok z m t → (b : DataBlock) × (z ≡ more (block b)) × (b.prototype_id ≡ id)
      values i (ok l x y) w = unfold after success block_step in (record { head = take (n - at) s; prototype_id = id; id = i; values = l }, cc, refl)
      values i (fault x) w = unfold after in fault≢ok w

      go : (q : Result Id) → after (after q (λ a at' s'. ok (with a (take (at' - n) r)) at' s')) (λ i. block_step (take (n - at) s) id i <$> data_values_parser version p.fields) ≡ ok z m t
          → (b : DataBlock) × (z ≡ more (block b)) × (b.prototype_id ≡ id)
      go (ok i x y) w = unfold after ◌<$>◌ ◌>>=◌ in values (with i (take (x - n) r)) (data_values_parser version p.fields x y) w
      go (fault x) w = unfold after in fault≢ok w

  pub record_block : {m : ℕ} {t : List ℕ} → ended ((id_parser >>= (λ i. data_values_parser version p.fields)) n r) ≡ ok tt m t
      → (b : DataBlock) × (record_parser version env at s ≡ ok (more (block b)) m t) × (b.prototype_id ≡ id)
  record_block {m} {t} h =
      let x = is_ok (record_parser version env at s) (block_ended version env at s e k ∙ h) in
      let y = is_block_law x.1 in
      (y.0, x.1 ∙ ap (λ z. ok z m t) y.1, y.2)
