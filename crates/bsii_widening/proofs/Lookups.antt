-- What the field call found in the old save it finds in the new one, at the block's new number, with the same type and bytes: no inserted definition has
-- the name that was found, so the first one so named is the old one, and its value stands at its position.
use mathlib.Core.Path.{◌≡◌, refl, sym, ap, ◌∙◌}
use Prim.Native.Nat.{ℕ, zero, suc, ◌+◌}
use mathlib.Core.Bool.{Bool, true, false, cond, not, ◌||◌}
use mathlib.Core.Option.{Option, none, some, map}
use mathlib.Core.List.{List, [], ◌∷◌}
use lib.ListN.{length, get_elem?}
use lib.Dec.{T}
use Rattle.bsii_format.specs.Reader.{Consumed, same}
use Rattle.bsii_format.specs.Values.{Value}
use Rattle.bsii_format.specs.Prototypes.{ValuePrototype, Prototype}
use Rattle.bsii_format.specs.Blocks.{DataValue, DataBlock, get_prototype}
use Rattle.bsii_format.specs.File.{BsiiFile, Record, prototype, block, record_bytes, prototypes_of}
use Rattle.bsii_format.specs.BlockText.{values_offset}
use Rattle.bsii_format.specs.Calls.{Placed, placed, placed_records, cons_block, blocks_in, blocks_of, field_index, at_index, field_under, field_in, FieldAnswer, field_answer, field_of}
use Rattle.bsii_widening.specs.Marks.{Mark, unmark, all, olds, MarkedPrototype, MarkedBlock, MarkedRecords, new_prototype, old_prototype, new_block, old_block, new_records, old_records}
use Rattle.bsii_widening.specs.Insertions.{has_name}
use Rattle.bsii_widening.specs.Parts.{marked_prototypes, renumber}
use Rattle.bsii_widening.proofs.Environments.{none≢some, some_inj, map_some, new_last, old_last, new_known, old_known}
use Rattle.bsii_widening.proofs.Fields.{Aligned, level, both_old, both_new, Clear}
use Rattle.bsii_widening.proofs.Invariant.{OldBlock, Inv, done, prototype_old, prototype_new, block_old, block_new, Sound}

-- ---- the look-ups without offsets

bare : {A : Type 0} → Option (Placed A) → Option A
bare = map (λ p. p.it)

unfoldable pub blocks : List Record → List DataBlock
blocks [] = []
blocks (prototype p ∷ l) = blocks l
blocks (block b ∷ l) = b ∷ blocks l

value_under : List ℕ → DataBlock → Option Prototype → Option DataValue
value_under name b none = none
value_under name b (some p) = at_index b.values (field_index name p.fields)

value_in : List ℕ → List Prototype → Option DataBlock → Option DataValue
value_in name last none = none
value_in name last (some b) = value_under name b (get_prototype b.prototype_id last)

value_of : List Record → ℕ → List ℕ → Option DataValue
value_of l k name = value_in name (prototypes_of l) (get_elem? (blocks l) k)

bare_placed : {A : Type 0} (size : A → ℕ) (at : ℕ) (l : List A) (i : ℕ) → bare (get_elem? (placed size at l) i) ≡ get_elem? l i
unfolding bare placed
bare_placed size at [] i = refl
bare_placed size at (a ∷ l) zero = refl
bare_placed size at (a ∷ l) (suc i) = bare_placed size (at + size a) l i

bare_at : {A : Type 0} (size : A → ℕ) (at : ℕ) (l : List A) (o : Option ℕ) → bare (at_index (placed size at l) o) ≡ at_index l o
unfolding bare at_index
bare_at size at l none = refl
bare_at size at l (some i) = bare_placed size at l i

bare_blocks : (size : Record → ℕ) (at : ℕ) (l : List Record) (k : ℕ) → bare (get_elem? (blocks_in (placed size at l)) k) ≡ get_elem? (blocks l) k
unfolding bare blocks_in placed cons_block blocks
bare_blocks size at [] k = refl
bare_blocks size at (prototype p ∷ l) k = bare_blocks size (at + size (prototype p)) l k
bare_blocks size at (block b ∷ l) zero = refl
bare_blocks size at (block b ∷ l) (suc k) = bare_blocks size (at + size (block b)) l k

bare_under : (name : List ℕ) (b : Placed DataBlock) (o : Option Prototype) → bare (field_under name b o) ≡ value_under name b.it o
unfolding bare field_under value_under
bare_under name b none = refl
bare_under name b (some p) = bare_at (λ (v : DataValue). length v.raw) (values_offset b.offset b.it) b.it.values (field_index name p.fields)

bare_in : (name : List ℕ) (last : List Prototype) (o : Option (Placed DataBlock)) → bare (field_in name last o) ≡ value_in name last (bare o)
unfolding bare field_in value_in
bare_in name last none = refl
bare_in name last (some b) = bare_under name b (get_prototype b.it.prototype_id last)

bare_field : (f : BsiiFile) (k : ℕ) (name : List ℕ) → bare (field_in name (prototypes_of f.records) (get_elem? (blocks_of f) k)) ≡ value_of f.records k name
unfolding value_of blocks_of placed_records
bare_field f k name =
    bare_in name (prototypes_of f.records) (get_elem? (blocks_in (placed (λ r. length (record_bytes r)) (length f.header.raw) f.records)) k)
    ∙ ap (value_in name (prototypes_of f.records)) (bare_blocks (λ r. length (record_bytes r)) (length f.header.raw) f.records k)

-- the field call's answer is the value's type and bytes
to_value : (o : Option (Placed DataValue)) {a : FieldAnswer} → map field_answer o ≡ some a → (v : DataValue) × (bare o ≡ some v) × (a.type_id ≡ v.type_id) × (a.bytes ≡ v.raw)
unfolding field_answer bare
to_value o e =
    let x = map_some field_answer o e in
    (x.0.it, ap (map (λ (p : Placed DataValue). p.it)) x.1, ap (λ (z : FieldAnswer). z.type_id) (sym x.2), ap (λ (z : FieldAnswer). z.bytes) (sym x.2))

of_value_law : (o : Option (Placed DataValue)) {v : DataValue} → bare o ≡ some v → (b : FieldAnswer) × (map field_answer o ≡ some b) × (b.type_id ≡ v.type_id) × (b.bytes ≡ v.raw)
unfolding field_answer bare
of_value_law o e =
    let x = map_some (λ (p : Placed DataValue). p.it) o e in
    (field_answer x.0, ap (map field_answer) x.1, ap (λ (z : DataValue). z.type_id) x.2, ap (λ (z : DataValue). z.raw) x.2)

-- ---- an inserted field hides no old one

index_suc : {A : Type 0} (x : A) (l : List A) (o : Option ℕ) → at_index (x ∷ l) (map suc o) ≡ at_index l o
unfolding at_index
index_suc x l none = refl
index_suc x l (some i) = refl

find_cons : (name : List ℕ) (f : Consumed ValuePrototype) (fs : List (Consumed ValuePrototype)) (v : DataValue) (l : List DataValue)
    → at_index (v ∷ l) (field_index name (f ∷ fs)) ≡ cond (same name f.value.name) (some v) (at_index l (field_index name fs))
unfolding field_index
find_cons name f fs v l = go (same name f.value.name)
  where
    go : (b : Bool) → at_index (v ∷ l) (cond b (some 0) (map suc (field_index name fs))) ≡ cond b (some v) (at_index l (field_index name fs))
    go true = unfold at_index in refl
    go false = index_suc v l (field_index name fs)

cond_step : (b : Bool) (x c : DataValue) (o o' : Option DataValue) → (o ≡ some c → o' ≡ some c) → cond b (some x) o ≡ some c → cond b (some x) o' ≡ some c
cond_step true x c o o' h e = e
cond_step false x c o o' h e = h e

cond_past : {A : Type 0} (b : Bool) (x o : Option A) → T (not b) → cond b x o ≡ o
cond_past true x o h = absurd h
cond_past false x o h = refl

find_olds : (name : List ℕ) {fs : List (Mark (Consumed ValuePrototype))} {l : List (Mark DataValue)} (c : DataValue) → Aligned fs l → Clear name fs
    → at_index (olds l) (field_index name (olds fs)) ≡ some c → at_index (all l) (field_index name (all fs)) ≡ some c
unfolding olds all
find_olds name c level h e = e
find_olds name c (both_old {f = f} {fs = fs} {v = v} {l = l} a) h e =
    find_cons name f (all fs) v (all l)
    ∙ cond_step (same name f.value.name) v c (at_index (olds l) (field_index name (olds fs))) (at_index (all l) (field_index name (all fs))) (find_olds name c a h) (sym (find_cons name f (olds fs) v (olds l)) ∙ e)
find_olds name c (both_new {f = f} {fs = fs} {v = v} {l = l} a) h e =
    find_cons name f (all fs) v (all l) ∙ cond_past (same name f.value.name) (some v) (at_index (all l) (field_index name (all fs))) h.0 ∙ find_olds name c a h.1 e

-- a name that was found is one of the definition's
find_has : (name : List ℕ) (fs : List (Consumed ValuePrototype)) (i : ℕ) → field_index name fs ≡ some i → T (has_name name fs)
unfolding field_index has_name
find_has name [] i e = none≢some e
find_has name (f ∷ fs) i e = go (same name f.value.name) (find_has name fs) e
  where
    go : (b : Bool) → ((i : ℕ) → field_index name fs ≡ some i → T (has_name name fs)) → cond b (some 0) (map suc (field_index name fs)) ≡ some i → T (b || has_name name fs)
    go true ih k = tt
    go false ih k = let x = map_some suc (field_index name fs) k in ih x.0 x.1

index_some : {A : Type 0} (l : List A) (o : Option ℕ) {a : A} → at_index l o ≡ some a → (i : ℕ) × (o ≡ some i)
unfolding at_index
index_some l none e = none≢some e
index_some l (some i) e = (i, refl)

-- ---- an old block, where it stands now

module _ (text : ValuePrototype → Value → Option (List ℕ)) where
  record Renumbered (last : List (Mark MarkedPrototype)) (M : MarkedRecords) (k : ℕ) (b : DataBlock) : Type 0 where
    pub at : MarkedBlock
    pub there : get_elem? (blocks (new_records M)) (renumber M k) ≡ some (new_block at)
    pub same : old_block at ≡ b
    pub fine : OldBlock last at

  stands : {version : ℕ} {last env : List (Mark MarkedPrototype)} {M : MarkedRecords} (k : ℕ) (b : DataBlock) → Inv version text last env M → get_elem? (blocks (old_records M)) k ≡ some b → Renumbered last M k b
  unfolding blocks old_records new_records renumber unmark
  stands k b done e = none≢some e
  stands k b (prototype_old g h) e = let x = stands k b h e in record { at = x.at; there = x.there; same = x.same; fine = x.fine }
  stands k b (prototype_new g h) e = let x = stands k b h e in record { at = x.at; there = x.there; same = x.same; fine = x.fine }
  stands zero b (block_old {b = m} g o h) e = record { at = m; there = refl; same = some_inj e; fine = o }
  stands (suc k) b (block_old g o h) e = let x = stands k b h e in record { at = x.at; there = x.there; same = x.same; fine = x.fine }
  stands k b (block_new g h) e = let x = stands k b h e in record { at = x.at; there = x.there; same = x.same; fine = x.fine }

  value_some : (name : List ℕ) (last : List Prototype) (o : Option DataBlock) {v : DataValue} → value_in name last o ≡ some v → (b : DataBlock) × (o ≡ some b)
  unfolding value_in
  value_some name last none e = none≢some e
  value_some name last (some b) e = (b, refl)

  value_at : (name : List ℕ) (last : List Prototype) (o : Option DataBlock) (b : DataBlock) (p : Prototype) → o ≡ some b → get_prototype b.prototype_id last ≡ some p
      → value_in name last o ≡ at_index b.values (field_index name p.fields)
  unfolding value_in value_under
  value_at name last o b p e k = ap (value_in name last) e ∙ ap (value_under name b) k

  found_at : (M : MarkedRecords) (k : ℕ) (name : List ℕ) (c : DataValue) → value_of (old_records M) k name ≡ some c → (m : MarkedBlock) → OldBlock (marked_prototypes M []) m
      → get_elem? (blocks (new_records M)) (renumber M k) ≡ some (new_block m) → get_elem? (blocks (old_records M)) k ≡ some (old_block m) → value_of (new_records M) (renumber M k) name ≡ some c
  unfolding value_of unmark
  found_at M k name c e m o there here =
      let before : at_index (olds m.values) (field_index name (olds o.by.fields)) ≡ some c =
      sym (value_at name (prototypes_of (old_records M)) (get_elem? (blocks (old_records M)) k) (old_block m) (old_prototype o.by) here
      (ap (get_prototype m.prototype_id) (old_last M) ∙ old_known m.prototype_id (marked_prototypes M []) o.found)) ∙ e in
      let i = index_some (olds m.values) (field_index name (olds o.by.fields)) before in
      value_at name (prototypes_of (new_records M)) (get_elem? (blocks (new_records M)) (renumber M k)) (new_block m) (new_prototype o.by) there
      (ap (get_prototype m.prototype_id) (new_last M) ∙ new_known m.prototype_id (marked_prototypes M []) o.found)
      ∙ find_olds name c o.aligned (o.distinct.clear name (find_has name (olds o.by.fields) i.0 i.1)) before

  found_again : {version : ℕ} (M : MarkedRecords) → Sound version text M → (k : ℕ) (name : List ℕ) (c : DataValue) → value_of (old_records M) k name ≡ some c → value_of (new_records M) (renumber M k) name ≡ some c
  unfolding value_of
  found_again M h k name c e =
      let q = value_some name (prototypes_of (old_records M)) (get_elem? (blocks (old_records M)) k) e in
      let x = stands k q.0 h q.1 in
      found_at M k name c e x.at x.fine x.there (q.1 ∙ ap some (sym x.same))

  pub field_found : {version : ℕ} (f g : BsiiFile) (M : MarkedRecords) → Sound version text M → old_records M ≡ f.records → g.records ≡ new_records M → (k : ℕ) (name : List ℕ) (a : FieldAnswer) → field_of k name f ≡ some a
      → (b : FieldAnswer) × (field_of (renumber M k) name g ≡ some b) × (b.type_id ≡ a.type_id) × (b.bytes ≡ a.bytes)
  unfolding field_of
  field_found f g M h before after k name a e =
      let x = to_value (field_in name (prototypes_of f.records) (get_elem? (blocks_of f) k)) e in
      let was : value_of (old_records M) k name ≡ some x.0 = ap (λ l. value_of l k name) before ∙ sym (bare_field f k name) ∙ x.1 in
      let y = of_value_law (field_in name (prototypes_of g.records) (get_elem? (blocks_of g) (renumber M k)))
      (bare_field g (renumber M k) name ∙ ap (λ l. value_of l (renumber M k) name) after ∙ found_again M h k name x.0 was) in
      (y.0, y.1, y.2 ∙ sym x.2, y.3 ∙ sym x.3)
