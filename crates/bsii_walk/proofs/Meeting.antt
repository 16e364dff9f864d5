-- A record of the second walk, case by case.
use mathlib.Core.Path.{◌≡◌, refl, sym, ap, ◌∙◌, subst}
use Prim.Native.Nat.{ℕ, ◌+◌}
use mathlib.Core.Option.{Option, some}
use mathlib.Core.List.{List}
use lib.ListN.{length, drop}
use Rattle.bsii_format.specs.Reader.{ok, ◌>>=◌}
use Rattle.bsii_format.specs.Strings.{id_parser}
use Rattle.bsii_format.specs.Prototypes.{Prototype, fields_parser}
use Rattle.bsii_format.specs.Blocks.{DataBlock, get_prototype, data_values_parser}
use Rattle.bsii_format.specs.File.{Record, prototype, block, end, more, record_parser}
use Rattle.bsii_string.specs.Answers.{end_of, unchecked_str}
use Rattle.bsii_string.specs.declared.answers.Refusal.{Refusal}
use Rattle.bsii_string.proofs.Ends.{next≢fault, next_same}
use Rattle.bsii_prototype.specs.Entries.{unchecked_head, fields_with}
use Rattle.bsii_prototype.specs.Answers.{counted, count_of}
use Rattle.bsii_prototype.specs.declared.answers.Counted.{Counted}
use Rattle.bsii_prototype.proofs.Turns.{fields_again}
use Rattle.bsii_prototype.proofs.Beginnings.{head_next}
use Rattle.bsii_table.specs.Rows.{lookup}
use Rattle.bsii_table.specs.Table.{found_row, Enters}
use Rattle.bsii_table.specs.Relation.{Entered}
use Rattle.bsii_table.specs.declared.Row.{Row as FoundRow}
use Rattle.bsii_table.proofs.Relation.{enter_entered, entered_at, entered_nothing}
use Rattle.bsii_block.specs.Blocks.{DefinedAt, BlockSkipped}
use Rattle.bsii_walk.specs.Again.{KindAt, PrototypeMet, PrototypeAgain, BlockMet, BlockAgain, Meets, a_prototype_law, a_block_law, RecordAgain}
use Rattle.bsii_walk.specs.declared.records.RecordKind.{RecordKind}
use Rattle.bsii_walk.specs.declared.records.RecordKind.TheVariants.{Defines, Carries}
use Rattle.bsii_walk.specs.declared.records.Block.{Block}
use Rattle.bsii_walk.specs.declared.records.Met.TheVariants.{Prototype as MetPrototype, Block as MetBlock}
use Rattle.std.specs.Prelude.{Ok, Err, Some, None, Option as Answer, Result as Outcome}
use Rattle.bsii_walk.proofs.Parts.{stands, block_parts_law, block_body, end_head}

some_is : {A : Type 0} {a b : A} → ◌≡◌ {A = Option A} (some a) (some b) → a ≡ b
some_is e = cc

ok_is : {A : Type 0} {a b : A} → ◌≡◌ {A = Outcome A Refusal} (Ok a) (Ok b) → a ≡ b
ok_is e = cc

-- ---- a prototype

module _ (s : List ℕ) (at : ℕ) (t : List ℕ) (rows id : ℕ) {r : Outcome ℕ Refusal} (e : r ≡ end_of (unchecked_head at (drop at s))) where
  fields_are : (p : Prototype) (h : DefinedAt s at p) {first : ℕ} → r ≡ Ok first → first ≡ h.fields
  fields_are p h z = next_same (sym z ∙ e ∙ head_next at (drop at s) h.head)

  pub again_head_fault : {x : Refusal} → r ≡ Err x → PrototypeAgain s at t rows id None t
  again_head_fault z = record { meets = λ env last n p h i. next≢fault (sym (e ∙ head_next at (drop at s) h.head) ∙ z); size = refl }

  module _ {first : ℕ} (z : r ≡ Ok first) {c : Outcome Counted Refusal} (f : c ≡ count_of (fields_with unchecked_str first (drop first s))) where
    counted_law : (p : Prototype) (h : DefinedAt s at p) → c ≡ counted (length p.fields) h.next
    unfolding count_of
    counted_law p h =
        let l : fields_parser first (drop first s) ≡ ok (record { fields = p.fields; terminator = p.terminator }) h.next (drop h.next s) =
        ap (λ n. fields_parser n (drop n s)) (fields_are p h z) ∙ h.list in
        f ∙ fields_again first (drop first s) l ∙ ap count_of l

    pub again_fields_fault : {x : Refusal} → c ≡ Err x → PrototypeAgain s at t rows id None t
    again_fields_fault y = record { meets = λ env last n p h i. let w = sym (counted_law p h) ∙ y in cc; size = refl }

    pub again_entered : {l : Counted} {t' : List ℕ} → c ≡ Ok l → Enters t rows id at t' → PrototypeAgain s at t rows id (Some l.next) t'
    again_entered {l} y x = record {
      meets = λ env last k p h i. record {
        met = let w : l ≡ record { count = length p.fields; next = h.next } = ok_is (sym y ∙ counted_law p h) in ap (λ (l : Counted). Some l.next) w;
        entered = enter_entered (DefinedAt s) k p at i h x;
      };
      size = x.size;
    }

-- ---- a block

module _ {version : ℕ} (s : List ℕ) (at id_at : ℕ) (t : List ℕ) (rows id : ℕ) {f : Answer FoundRow} (e : found_row f ≡ lookup t rows id) where
  pub again_unknown : f ≡ None → BlockAgain version s at id_at t rows id None
  again_unknown z = record { meets = λ env last k p q i j v n u b. let w = sym (entered_nothing (DefinedAt s) k id z e) ∙ j in cc }

  module _ {a : FoundRow} (z : f ≡ Some a) {x y : ℕ} (i : x ≡ a.in_force) (j : y ≡ a.last) {r : Outcome Counted Refusal} (w : BlockSkipped version s x id_at r) where
    under : (env last : List Prototype) → Entered (DefinedAt s) t rows env last → (p q : Prototype) → get_prototype id env ≡ some p → get_prototype id last ≡ some q → DefinedAt s x p × DefinedAt s y q
    under env last k p q g h =
        let o = entered_at (DefinedAt s) k id z e in
        (subst (λ c. DefinedAt s c p) (sym i) (o.3 p g), subst (λ c. DefinedAt s c q) (sym j) (subst (DefinedAt s a.last) (some_is (sym o.1 ∙ h)) o.2))

    pub again_block_fault : {x : Refusal} → r ≡ Err x → BlockAgain version s at id_at t rows id None
    again_block_fault g = record { meets = λ env last k p q d h v n u c. let m = sym (w.ends p (under env last k p q d h).0 v n u c) ∙ g in cc }

    pub again_block : {c : Counted} → r ≡ Ok c → BlockAgain version s at id_at t rows id (Some (record { at = at; id = id_at; under = x; last = y; next = c.next }))
    again_block {c} g = record {
      meets = λ env last k p q d h v m u b.
          let o = under env last k p q d h in
          let l : c ≡ record { count = length p.fields; next = m } = ok_is (sym g ∙ w.ends p o.0 v m u b) in
          record { in_force = x; last = y; met = ap (λ (c : Counted). Some (record { at = at; id = id_at; under = x; last = y; next = c.next })) l; under = o.0; named = o.1 };
    }

-- ---- any record

module _ (version : ℕ) (s : List ℕ) (at : ℕ) (t : List ℕ) (rows : ℕ) {k : Answer RecordKind} (e : KindAt s at k) where
  pub is_prototype_law : (env : List Prototype) (p : Prototype) (n : ℕ) → record_parser version env at (drop at s) ≡ ok (more (prototype p)) n (drop n s) → k ≡ Some (Defines p.id)
  is_prototype_law env p n h = let x = stands version env s at n p h in e.is _ _ _ x.0.head

  pub is_block_law : (env : List Prototype) (b : DataBlock) (n : ℕ) → record_parser version env at (drop at s) ≡ ok (more (block b)) n (drop n s) → k ≡ Some (Carries b.prototype_id (at + length b.head))
  is_block_law env b n h = e.is _ _ _ (block_parts_law version env s at n b h).head

  pub is_end : (env : List Prototype) (l : List ℕ) (n : ℕ) (u : List ℕ) → record_parser version env at (drop at s) ≡ ok (end l) n u → k ≡ None
  is_end env l n u h = e.is _ _ _ (end_head version env s at n l u h).2

  pub again_end : k ≡ None → RecordAgain version s at t rows None t
  again_end z = record { meets = λ env last w i n h d. go env last n i h; ends = λ env l n u h. (refl, refl); size = refl }
    where
      go : (env last : List Prototype) (n : ℕ) (i : Record) → record_parser version env at (drop at s) ≡ ok (more i) n (drop n s) → Meets s at rows env last n i None t
      go env last n (prototype p) h = let x = sym z ∙ is_prototype_law env p n h in cc
      go env last n (block b) h = let x = sym z ∙ is_block_law env b n h in cc

  module _ {id : ℕ} (z : k ≡ Some (Defines id)) where
    -- what the record is that defines this id
    module _ {t' : List ℕ} {r : Answer ℕ} (x : PrototypeAgain s at t rows id r t') where
      defines : (env last : List Prototype) (n : ℕ) → Entered (DefinedAt s) t rows env last → (p : Prototype) → record_parser version env at (drop at s) ≡ ok (more (prototype p)) n (drop n s)
          → PrototypeMet s t' rows env last p n r
      defines env last n w p h =
          let y = stands version env s at n p h in
          let c = sym z ∙ is_prototype_law env p n h in
          let i : id ≡ p.id = cc in
          subst (λ j. PrototypeMet s t' rows env last p j r) y.1 (x.meets env last w p y.0 (sym i))

    pub again_prototype_not : {t' : List ℕ} → PrototypeAgain s at t rows id None t' → RecordAgain version s at t rows None t'
    again_prototype_not {t'} x = record { meets = λ env last w i n h d. go env last n w i h; ends = λ env l n u h. let c = sym (is_end env l n u h) ∙ z in cc; size = x.size }
      where
        go : (env last : List Prototype) (n : ℕ) → Entered (DefinedAt s) t rows env last → (i : Record) → record_parser version env at (drop at s) ≡ ok (more i) n (drop n s) → Meets s at rows env last n i None t'
        go env last n w (prototype p) h = let m = (defines x env last n w p h).met in cc
        go env last n w (block b) h = let c = sym z ∙ is_block_law env b n h in cc

    pub again_prototype : {m : ℕ} {t' : List ℕ} → PrototypeAgain s at t rows id (Some m) t' → RecordAgain version s at t rows (Some (MetPrototype m)) t'
    again_prototype {m} {t'} x = record { meets = λ env last w i n h d. go env last n w i h; ends = λ env l n u h. let c = sym (is_end env l n u h) ∙ z in cc; size = x.size }
      where
        go : (env last : List Prototype) (n : ℕ) → Entered (DefinedAt s) t rows env last → (i : Record) → record_parser version env at (drop at s) ≡ ok (more i) n (drop n s) → Meets s at rows env last n i (Some (MetPrototype m)) t'
        go env last n w (prototype p) h = a_prototype_law p (defines x env last n w p h)
        go env last n w (block b) h = let c = sym z ∙ is_block_law env b n h in cc

  module _ {id next : ℕ} (z : k ≡ Some (Carries id next)) where
    module _ {r : Answer Block} (x : BlockAgain version s at next t rows id r) where
      carries : (env last : List Prototype) (n : ℕ) → Entered (DefinedAt s) t rows env last
          → ((id : ℕ) (p : Prototype) → get_prototype id env ≡ some p → (q : Prototype) × (get_prototype id last ≡ some q))
          → (b : DataBlock) → record_parser version env at (drop at s) ≡ ok (more (block b)) n (drop n s)
          → (p : Prototype) × (q : Prototype) × (get_prototype b.prototype_id env ≡ some p) × (get_prototype b.prototype_id last ≡ some q) × BlockMet s at (at + length b.head) n p q r
      carries env last n w d b h =
          let y = block_parts_law version env s at n b h in
          let c = sym z ∙ is_block_law env b n h in
          let q = d b.prototype_id y.by y.found in
          let i : id ≡ b.prototype_id = cc in
          let j : next ≡ at + length b.head = cc in
          let m = x.meets env last w y.by q.0 (ap (λ v. get_prototype v env) i ∙ y.found) (ap (λ v. get_prototype v last) i ∙ q.1) b.values n (drop n s)
          (ap (λ v. (id_parser >>= (λ i. data_values_parser version y.by.fields)) v (drop v s)) j ∙ block_body version env s at n b y) in
          (y.by, q.0, y.found, q.1, subst (λ v. BlockMet s at v n y.by q.0 r) j m)

    pub again_carries_not : BlockAgain version s at next t rows id None → RecordAgain version s at t rows None t
    again_carries_not x = record { meets = λ env last w i n h d. go env last n w d i h; ends = λ env l n u h. let c = sym (is_end env l n u h) ∙ z in cc; size = refl }
      where
        go : (env last : List Prototype) (n : ℕ) → Entered (DefinedAt s) t rows env last
            → ((id : ℕ) (p : Prototype) → get_prototype id env ≡ some p → (q : Prototype) × (get_prototype id last ≡ some q))
            → (i : Record) → record_parser version env at (drop at s) ≡ ok (more i) n (drop n s) → Meets s at rows env last n i None t
        go env last n w d (prototype p) h = let c = sym (is_prototype_law env p n h) ∙ z in cc
        go env last n w d (block b) h = let m = (carries x env last n w d b h).4.met in cc

    pub again_carries : {y : Block} → BlockAgain version s at next t rows id (Some y) → RecordAgain version s at t rows (Some (MetBlock y)) t
    again_carries {y} x = record { meets = λ env last w i n h d. go env last n w d i h; ends = λ env l n u h. let c = sym (is_end env l n u h) ∙ z in cc; size = refl }
      where
        go : (env last : List Prototype) (n : ℕ) → Entered (DefinedAt s) t rows env last
            → ((id : ℕ) (p : Prototype) → get_prototype id env ≡ some p → (q : Prototype) × (get_prototype id last ≡ some q))
            → (i : Record) → record_parser version env at (drop at s) ≡ ok (more i) n (drop n s) → Meets s at rows env last n i (Some (MetBlock y)) t
        go env last n w d (prototype p) h = let c = sym (is_prototype_law env p n h) ∙ z in cc
        go env last n w d (block b) h = let c = carries x env last n w d b h in a_block_law b c.0 c.1 c.2 c.3 c.4 w
