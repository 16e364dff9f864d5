-- The steps of the reading walk, case by case: what the code found at a record, and what the records from there on are.
use mathlib.Core.Path.{◌≡◌, refl, sym, ap, ap₂, ◌∙◌, subst}
use Prim.Native.Nat.{ℕ, ◌+◌, ◌/◌}
use native.Mathlib.Nat.{add-zero}
use mathlib.Core.Bool.{Bool, true, false}
use mathlib.Core.Option.{some}
use mathlib.Core.List.{List, [], ◌∷◌}
use lib.ListN.{length, drop}
use Rattle.bsii_format.specs.Replies.{undefined_prototype, table_full}
use Rattle.bsii_format.specs.Reader.{Result, ok, fault, ◌>>=◌, Consumed}
use Rattle.bsii_format.specs.Strings.{id_parser}
use Rattle.bsii_format.specs.Prototypes.{ValuePrototype, Prototype, Fields, fields_parser}
use Rattle.bsii_format.specs.Blocks.{DataValue, find_by, get_prototype, data_values_parser}
use Rattle.bsii_format.specs.File.{Record, prototype, block, ending, defining, carrying, head_parser, Step, more, record_parser, has_room}
use Rattle.bsii_format.specs.Calls.{Placed, cons_prototype}
use Rattle.bsii_format.proofs.Readers.{Exact, bind_exact, fault≢ok}
use Rattle.bsii_format.proofs.Parsers.{id_exact}
use Rattle.bsii_format.proofs.Records.{step_bytes, record_good, fields_good, fields_fits, values_good, values_fits, record_exact, record_empty}
use Rattle.bsii_format.proofs.Positions.{moved, moved_on}
use Rattle.bsii_string.specs.Answers.{fault_is, refusal_is, refused_at, unchecked_str}
use Rattle.bsii_string.specs.declared.answers.Refusal.{Refusal}
use Rattle.bsii_string.proofs.Ends.{next_ended, fault_ended}
use Rattle.bsii_table.specs.Table.{found_row}
use Rattle.bsii_table.specs.declared.Row.{Row as FoundRow}
use Rattle.bsii_table.proofs.Relation.{found_at, found_nothing}
use Rattle.bsii_tree.specs.Table.{lookup_tree, Defines}
use Rattle.bsii_tree.proofs.Relation.{is_put, is_full, define_grows, define_room, define_full}
use Rattle.bsii_prototype.specs.Entries.{fields_with}
use Rattle.bsii_prototype.specs.Answers.{count_of, head_is}
use Rattle.bsii_prototype.proofs.Turns.{fields_again}
use Rattle.bsii_prototype.specs.declared.answers.Counted.{Counted}
use Rattle.bsii_prototype.specs.declared.answers.Head.{Head as HeadAnswer}
use Rattle.bsii_prototype.specs.declared.answers.Head.TheVariants.{End as HeadEnd, Prototype as HeadPrototype, Block as HeadBlock}
use Rattle.bsii_block.specs.Blocks.{DefinedAt, counted_end, KnownEnd, Assured}
use Rattle.bsii_parse.specs.Walks.{block_count, prototype_count, behind, records_at, bare, Growing, KnownList, past, Goes, behind_prototype, behind_block, PastRecord, StepMeets, passed, ended as atEnd, refused, Stepped, Defining, Carrying}
use Rattle.bsii_parse.specs.declared.walk.Progress.{Progress}
use Rattle.bsii_parse.specs.declared.walk.ReadStep.{ReadStep}
use Rattle.bsii_parse.specs.declared.walk.ReadStep.TheVariants.{Prototype as WentPrototype, Block as WentBlock, End}
use Rattle.bsii_parse.specs.declared.walk.Under.{Under}
use Rattle.bsii_parse.proofs.Records.{records_fault, records_end, records_full, records_more}
use Rattle.bsii_parse.proofs.RecordSteps.{record_fault, record_end, prototype_of, record_prototype, record_fields_fault, record_undefined, record_block_fault, block_accepted, record_block}
use Rattle.bsii_parse.proofs.Tables.{offsets_put, bare_cons, placed_at}
use Rattle.std.specs.Prelude.{Ok, Err, Some, None, Option as Answer, Result as Outcome}

-- ---- the list of definitions is exact

pub fields_exact : Exact Fields fields_parser
unfolding fields_parser
fields_exact = record {
  took = λ at s l at' r e.
      let g = fields_good (length s) at s l at' r e in
      (_, record { front = g.front; place = g.place; fits = fields_fits g.good g.last });
}

-- a block's id and values
pub values_exact : (version : ℕ) (fs : List (Consumed ValuePrototype)) → Exact (List DataValue) (data_values_parser version fs)
values_exact version fs = record {
  took = λ at s l at' r e.
      let g = values_good fs at s l at' r e in
      (_, record { front = g.front; place = g.place; fits = values_fits g.good });
}

block_exact : (version : ℕ) (fs : List (Consumed ValuePrototype)) → Exact (List DataValue) (id_parser >>= (λ i. data_values_parser version fs))
block_exact version fs = bind_exact _ id_exact (λ i. values_exact version fs)

-- how far the walk is behind a prototype
abbrev behind_prototype_law : Progress → ℕ → ℕ → Progress
behind_prototype_law p n rows = record { at = n; rows = rows; blocks = p.blocks; prototypes = p.prototypes + 1 }

-- and behind a block
abbrev behind_block_law : Progress → ℕ → Progress
behind_block_law p n = record { at = n; rows = p.rows; blocks = p.blocks + 1; prototypes = p.prototypes }

abbrev under_of : ℕ → ℕ → Under
under_of o n = record { offset = o; fields = n }

-- where the records from here on are accepted, so is the block here
assured_body : (version rooms : ℕ) (env : List Prototype) (at : ℕ) (s : List ℕ) {id n : ℕ} {p : Prototype}
    → head_parser at (drop at s) ≡ ok (carrying id) n (drop n s) → get_prototype id env ≡ some p → (known : Bool) → Assured known (records_at version rooms env at s)
    → Assured known ((id_parser >>= (λ i. data_values_parser version p.fields)) n (drop n s))
assured_body version rooms env at s h k false y = tt
assured_body version rooms env at s {n = n} {p = p} h k true y = go (record_parser version env at (drop at s)) refl
  where
    go : (q : Result Step) → record_parser version env at (drop at s) ≡ q
        → Assured true ((id_parser >>= (λ i. data_values_parser version p.fields)) n (drop n s))
    go (ok z m t) e = let x = block_accepted version env at (drop at s) h k e in (x.0, m, t, x.1)
    go (fault f) e = fault≢ok (sym (records_fault version rooms env at s e) ∙ y.3)

-- and so are the definitions of the prototype here
assured_fields : (version rooms : ℕ) (env : List Prototype) (at : ℕ) (s : List ℕ) {id n : ℕ} {name : List ℕ} → head_parser at (drop at s) ≡ ok (defining id name) n (drop n s)
    → (known : Bool) → Assured known (records_at version rooms env at s) → Assured known (fields_parser n (drop n s))
assured_fields version rooms env at s h false y = tt
assured_fields version rooms env at s {n = n} h true y = go (fields_parser n (drop n s)) refl
  where
    go : (q : Result Fields) → fields_parser n (drop n s) ≡ q → Assured true (fields_parser n (drop n s))
    go (ok l m t) e = (l, m, t, e)
    go (fault f) e = fault≢ok (sym (records_fault version rooms env at s (record_fields_fault version env at (drop at s) h e)) ∙ y.3)

-- what a counted end says of the end
ended_next : {k : ℕ} {c : Counted} (e : Outcome ℕ Refusal) → Ok c ≡ counted_end k e → (c.count ≡ k) × (Ok c.next ≡ e)
ended_next {k} {c} (Ok m) h = let z : c ≡ record { count = k; next = m } = cc in (ap (λ (c : Counted). c.count) z, ap (λ (c : Counted). Ok c.next) z)
ended_next (Err f) h = cc

ended_fault : (k : ℕ) {f : Refusal} (e : Outcome ℕ Refusal) → Err f ≡ counted_end k e → Err f ≡ e
ended_fault k (Ok m) h = cc
ended_fault k (Err f) h = cc

module _ {version : ℕ} {s : List ℕ} {p : Progress} {t : List ℕ} {env : List (Placed Prototype)} where
  -- ---- any record

  step_fault : {f : Refusal} {t' : List ℕ} → record_parser version (bare env) p.at (drop p.at s) ≡ fault (fault_is f) → length t' ≡ length t → StepMeets version s p t env (Err f) t'
  step_fault e l = refused (records_fault version (length t / 3) (bare env) p.at s e) l

  pub past_record : (i : Record) {n rows : ℕ} {t' : List ℕ} → record_parser version (bare env) p.at (drop p.at s) ≡ ok (more i) n (drop n s)
      → has_room (length t / 3) (bare env) i ≡ true → Growing s t' rows (cons_prototype p.at i env) → length t' ≡ length t → PastRecord version s p t env i n rows t'
  unfolding step_bytes
  past_record i {n} e h k l =
      let m = moved_on (record_exact version (bare env)) (record_empty version (bare env) 0) s p.at e in
      record {
        records = records_more version (length t / 3) (bare env) p.at s e h
            ∙ ap (λ z. behind (i ∷ []) (records_at version (length t / 3) z n s)) (sym (bare_cons p.at i env));
        on = m.0;
        inside = m.1;
        long = (record_good (bare env) p.at (drop p.at s) (more i) n (drop n s) e).place;
        kept = k;
        size = l;
      }

  step_passed : (i : Record) {n rows : ℕ} {r : ReadStep} {t' : List ℕ} → record_parser version (bare env) p.at (drop p.at s) ≡ ok (more i) n (drop n s)
      → has_room (length t / 3) (bare env) i ≡ true → Growing s t' rows (cons_prototype p.at i env) → length t' ≡ length t → Goes env (past p i n rows) i r
      → StepMeets version s p t env (Ok r) t'
  step_passed i e h k l g = passed i (past_record i e h k l) g

  -- ---- by the head

  pub step_head_fault : {f : Refusal} → head_parser p.at (drop p.at s) ≡ fault (fault_is f) → StepMeets version s p t env (Err f) t
  step_head_fault e = step_fault (record_fault version (bare env) p.at (drop p.at s) e) refl

  pub step_end : {n : ℕ} → head_parser p.at (drop p.at s) ≡ ok ending n (drop n s) → StepMeets version s p t env (Ok (End n)) t
  step_end {n} e = atEnd (records_end version (length t / 3) (bare env) p.at s (record_end version (bare env) p.at (drop p.at s) e))

  -- ---- a prototype

  module _ {id fields : ℕ} {name : List ℕ} (h : head_parser p.at (drop p.at s) ≡ ok (defining id name) fields (drop fields s)) where
    pub prototype_fault : {f : Refusal} → fields_parser fields (drop fields s) ≡ fault (fault_is f) → StepMeets version s p t env (Err f) t
    prototype_fault e = step_fault (record_fields_fault version (bare env) p.at (drop p.at s) h e) refl

    pub prototype_full : {l : Fields} {n : ℕ} {d : Answer ℕ} {t' : List ℕ} → fields_parser fields (drop fields s) ≡ ok l n (drop n s) → Growing s t p.rows env → d ≡ None
        → Defines s t p.rows id p.at d t' → StepMeets version s p t env (Err (refused_at table_full p.at)) t'
    unfolding prototype_of
    prototype_full {l} {n} e k f d =
        let x = is_full f d in
        let one = prototype_of p.at (drop p.at s) id name fields l in
        refused (records_full version (length t / 3) (bare env) p.at s (record_prototype version (bare env) p.at (drop p.at s) h e) (define_full (DefinedAt s) k.holds one refl f d)) (ap length x.same)

    pub prototype_passed : {l : Fields} {n rows : ℕ} {d : Answer ℕ} {t' : List ℕ} → fields_parser fields (drop fields s) ≡ ok l n (drop n s) → Growing s t p.rows env → d ≡ Some rows
        → Defines s t p.rows id p.at d t' → StepMeets version s p t env (Ok (WentPrototype (behind_prototype_law p n rows))) t'
    unfolding prototype_of block_count prototype_count cons_prototype
    prototype_passed {l} {n} {rows} {d} {t'} e k f w =
        let x = is_put f w in
        let one = prototype_of p.at (drop p.at s) id name fields l in
        let stands : DefinedAt s p.at one = record { fields = fields; next = n; head = h; list = e } in
        subst (λ b. StepMeets version s p t env (Ok (WentPrototype (record { at = n; rows = rows; blocks = b; prototypes = p.prototypes + 1 }))) t')
        (add-zero p.blocks)
        (step_passed (prototype one) (record_prototype version (bare env) p.at (drop p.at s) h e) (define_room (DefinedAt s) k.holds one refl f w)
        (record { holds = define_grows (DefinedAt s) k.holds one refl stands f w; offsets = offsets_put s t p.rows t' rows env one p.at x k.offsets })
        x.size behind_prototype)

  -- ---- a block

  module _ {id at : ℕ} (h : head_parser p.at (drop p.at s) ≡ ok (carrying id) at (drop at s)) (k : Growing s t p.rows env) where
    pub block_undefined : found_row None ≡ lookup_tree s t p.rows id → StepMeets version s p t env (Err (refused_at undefined_prototype p.at)) t
    block_undefined f = step_fault (record_undefined version (bare env) p.at (drop p.at s) h (found_nothing (DefinedAt s) k.holds id refl f)) refl

    module _ {r : FoundRow} (f : found_row (Some r) ≡ lookup_tree s t p.rows id) {known : Bool} (y : Assured known (records_at version (length t / 3) (bare env) p.at s)) where
      pub block_fault : {x : Refusal} → KnownEnd version s r.in_force at known (Err x) → StepMeets version s p t env (Err x) t
      block_fault w =
          let d = found_at (DefinedAt s) k.holds id refl f in
          let v = w.ends d.0 d.2 (assured_body version (length t / 3) (bare env) p.at s h d.1 known y) in
          step_fault (record_block_fault version (bare env) p.at (drop p.at s) h d.1 (fault_ended _ (ended_fault (length d.0.fields) _ v))) refl

      pub block_passed : {c : Counted} → KnownEnd version s r.in_force at known (Ok c)
          → StepMeets version s p t env (Ok (WentBlock (behind_block_law p c.next) (under_of r.in_force c.count))) t
      unfolding block_count prototype_count cons_prototype has_room
      block_passed {c} w =
          let x = found_at (DefinedAt s) k.holds id refl f in
          let v = ended_next _ (w.ends x.0 x.2 (assured_body version (length t / 3) (bare env) p.at s h x.1 known y)) in
          let b = record_block version (bare env) p.at (drop p.at s) h x.1 (next_ended (block_exact version x.0.fields) s at v.1) in
          let d = placed_at k id f x.1 in
          let many : length d.0.it.fields ≡ c.count = ap (λ (q : Prototype). length q.fields) d.3 ∙ sym v.0 in
          let found = ap (λ m. find_by (λ (q : Placed Prototype). q.it.id) m env) b.2 ∙ d.1 in
          subst (λ r. StepMeets version s p t env (Ok r) t)
          (ap₂ WentBlock (ap (λ m. record { at = c.next; rows = p.rows; blocks = p.blocks + 1; prototypes = m }) (add-zero p.prototypes)) (ap₂ under_of d.2 many))
          (step_passed (block b.0) b.1 refl k refl (behind_block d.0 found))

-- ---- the same for the code's answers

pub counted_fault : {f : Refusal} (q : Result Fields) → Err f ≡ count_of q → q ≡ fault (fault_is f)
unfolding count_of
counted_fault (ok l n r) e = cc
counted_fault {f} (fault x) e = let a : refusal_is x ≡ f = cc in ap (λ (f : Refusal). fault (fault_is f)) a

pub counted_is : (s : List ℕ) (fields : ℕ) {c : Counted} → Ok c ≡ count_of (fields_parser fields (drop fields s)) → (l : Fields) × (fields_parser fields (drop fields s) ≡ ok l c.next (drop c.next s))
unfolding count_of
counted_is s fields {c} e = go (fields_parser fields (drop fields s)) refl e
  where
    go : (q : Result Fields) → fields_parser fields (drop fields s) ≡ q → Ok c ≡ count_of q → (l : Fields) × (q ≡ ok l c.next (drop c.next s))
    go (ok l m r) h z =
        let w : c ≡ record { count = length l.fields; next = m } = cc in
        let i : c.next ≡ m = ap (λ (c : Counted). c.next) w in
        (l, rw (i, ← (moved fields_exact s fields h).rest))
    go (fault f) h z = cc

pub list_parsed : {s : List ℕ} {fields : ℕ} {r : Outcome Counted Refusal} → r ≡ count_of (fields_parser fields (drop fields s)) → KnownList s fields false r
list_parsed e = record { counts = λ a. e }

pub list_skipped : {s : List ℕ} {fields : ℕ} {r : Outcome Counted Refusal} → r ≡ count_of (fields_with unchecked_str fields (drop fields s)) → KnownList s fields true r
list_skipped {s} {fields} e = record { counts = λ a. e ∙ fields_again fields (drop fields s) a.3 }

-- the definitions, as the code has counted them
counted_law : {s : List ℕ} {fields : ℕ} {known : Bool} {q : Outcome Counted Refusal} → KnownList s fields known q → (version rooms : ℕ) (env : List Prototype) (at : ℕ)
    → {id : ℕ} {name : List ℕ} → head_parser at (drop at s) ≡ ok (defining id name) fields (drop fields s) → Assured known (records_at version rooms env at s)
    → q ≡ count_of (fields_parser fields (drop fields s))
counted_law {s} {known = known} g version rooms env at h y = g.counts (assured_fields version rooms env at s h known y)

module _ {s : List ℕ} {p : Progress} {t : List ℕ} {known : Bool} {id fields : ℕ} where
  pub defining_fault : {f : Refusal} → KnownList s fields known (Err f) → Defining s p t known id fields (Err f) t
  defining_fault g = record { steps = λ version env k y name h. prototype_fault h (counted_fault (fields_parser fields (drop fields s)) (counted_law g version (length t / 3) (bare env) p.at h y)) }

  module _ {c : Counted} (g : KnownList s fields known (Ok c)) {d : Answer ℕ} {t' : List ℕ} (x : Defines s t p.rows id p.at d t') where
    pub defining_full : d ≡ None → Defining s p t known id fields (Err (refused_at table_full p.at)) t'
    defining_full z = record { steps = λ version env k y name h. prototype_full h (counted_is s fields (counted_law g version (length t / 3) (bare env) p.at h y)).1 k z x }

    pub defining_row : {rows : ℕ} → d ≡ Some rows → Defining s p t known id fields (Ok (WentPrototype (behind_prototype_law p c.next rows))) t'
    defining_row z = record { steps = λ version env k y name h. prototype_passed h (counted_is s fields (counted_law g version (length t / 3) (bare env) p.at h y)).1 k z x }

module _ {version : ℕ} {s : List ℕ} {p : Progress} {t : List ℕ} {id at : ℕ} {known : Bool} where
  pub carrying_undefined : found_row None ≡ lookup_tree s t p.rows id → Carrying version s p t known id at (Err (refused_at undefined_prototype p.at))
  carrying_undefined f = record { steps = λ env k y h. block_undefined h k f }

  module _ {r : FoundRow} (f : found_row (Some r) ≡ lookup_tree s t p.rows id) {o : ℕ} (i : o ≡ r.in_force) where
    pub carrying_fault : {x : Refusal} → KnownEnd version s o at known (Err x) → Carrying version s p t known id at (Err x)
    carrying_fault {x} w = record { steps = λ env k y h. block_fault h k f y (subst (λ o. KnownEnd version s o at known (Err x)) i w) }

    pub carrying_under : {c : Counted} → KnownEnd version s o at known (Ok c) → Carrying version s p t known id at (Ok (WentBlock (behind_block_law p c.next) (under_of o c.count)))
    carrying_under {c} w =
        subst (λ o. Carrying version s p t known id at (Ok (WentBlock (behind_block_law p c.next) (under_of o c.count)))) (sym i)
        (record { steps = λ env k y h. block_passed h k f y (subst (λ o. KnownEnd version s o at known (Ok c)) i w) })

pub head_law : (s : List ℕ) (at : ℕ) {h i : HeadAnswer} → head_is s (Ok h) ≡ head_parser at (drop at s) → h ≡ i → head_parser at (drop at s) ≡ head_is s (Ok i)
head_law s at e z = sym e ∙ ap (λ (i : HeadAnswer). head_is s (Ok i)) z

module _ {version : ℕ} {s : List ℕ} {p : Progress} {t : List ℕ} {known : Bool} where
  pub stepped_bad : {f : Refusal} → fault (fault_is f) ≡ head_parser p.at (drop p.at s) → Stepped version s p t known (Err f) t
  stepped_bad e = record { steps = λ env k y. step_head_fault (sym e) }

  module _ {h : HeadAnswer} (e : head_is s (Ok h) ≡ head_parser p.at (drop p.at s)) where
    pub stepped_end : {n : ℕ} → h ≡ HeadEnd n → Stepped version s p t known (Ok (End n)) t
    stepped_end z = record { steps = λ env k y. step_end (head_law s p.at e z) }

    pub stepped_defining : {id name next : ℕ} {r : Outcome ReadStep Refusal} {t' : List ℕ} → h ≡ HeadPrototype id name next → Defining s p t known id next r t'
        → Stepped version s p t known r t'
    stepped_defining z d = record { steps = λ env k y. d.steps version env k y _ (head_law s p.at e z) }

    pub stepped_carrying : {id next : ℕ} {r : Outcome ReadStep Refusal} → h ≡ HeadBlock id next → Carrying version s p t known id next r → Stepped version s p t known r t
    stepped_carrying z d = record { steps = λ env k y. d.steps env k y (head_law s p.at e z) }
