-- A step of the walk: the reading step that it stands for, and what the record adds to the sum.
use mathlib.Core.Path.{◌≡◌, refl, sym, ap, ◌∙◌, subst}
use Prim.Native.Nat.{ℕ, ◌+◌, ◌-◌, ◌/◌, ◌≤◌, ◌<◌, max}
use native.Mathlib.Nat.{add-zero, max-zero}
use native.Mathlib.Omega.{arith}
use mathlib.Core.Bool.{false}
use mathlib.Core.Option.{Option, some}
use mathlib.Core.List.{List, [], ◌∷◌}
use lib.ListN.{length, drop}
use Rattle.bsii_format.specs.Replies as replies
use Rattle.bsii_format.specs.Replies.{Reply, gives}
use Rattle.bsii_format.specs.Reader.{Result, ok, fault, after, ◌>>=◌}
use Rattle.bsii_format.specs.Strings.{Id, id_parser}
use Rattle.bsii_format.specs.Prototypes.{Prototype}
use Rattle.bsii_format.specs.Blocks.{DataValue, DataBlock, get_prototype, data_values_parser}
use Rattle.bsii_format.specs.File.{Record, prototype, block, carrying, head_parser, more, record_parser, has_room, record_bytes}
use Rattle.bsii_format.specs.Calls.{Placed, cons_prototype, record_steps}
use Rattle.bsii_format.specs.Text.{value_text}
use Rattle.bsii_format.specs.BlockText.{block_opening, closing, block_text}
use Rattle.bsii_format.proofs.Readers.{ok_at}
use Rattle.bsii_format.proofs.Parsers.{id_exact, head_exact}
use Rattle.bsii_format.proofs.Positions.{moved, ended}
use Rattle.bsii_format.proofs.Records.{record_good, head_takes, values_length}
use Rattle.bsii_derived.specs.Forecast.{largest_in}
use Rattle.bsii_string.specs.declared.answers.Refusal.{Refusal}
use Rattle.bsii_prototype.specs.Answers.{head_is}
use Rattle.bsii_prototype.specs.declared.answers.Head.{Head as HeadAnswer}
use Rattle.bsii_prototype.specs.declared.answers.Head.TheVariants.{Prototype as HeadPrototype, Block as HeadBlock}
use Rattle.std.specs.Prelude.{Ok, Err, Some, Result as Outcome}
use Rattle.bsii_block.specs.Blocks.{DefinedAt}
use Rattle.bsii_table.specs.Table.{found_row}
use Rattle.bsii_table.specs.declared.Row.{Row as FoundRow}
use Rattle.bsii_table.proofs.Relation.{found_at}
use Rattle.bsii_tree.specs.Table.{lookup_tree}
use Rattle.bsii_parse.specs.Walks.{block_count, prototype_count, bare, past, Goes, behind_prototype, behind_block, PastRecord, StepMeets, passed as overRecord, ended as atEnd, refused as unread, Stepped, Defining, Carrying}
use Rattle.bsii_parse.specs.declared.walk.Progress.{Progress}
use Rattle.bsii_parse.specs.declared.walk.ReadStep.{ReadStep}
use Rattle.bsii_parse.specs.declared.walk.ReadStep.TheVariants.{Prototype as WentPrototype, End as AtEnd}
use Rattle.bsii_parse.proofs.Records.{records_fault}
use Rattle.bsii_parse.proofs.RecordSteps.{record_block_fault, record_block}
use Rattle.bsii_parse.proofs.Passing.{values_exact, past_record, head_law}
use Rattle.bsii_walk.proofs.Parts.{BlockParts, block_parts_law}
use Rattle.bsii_measure_block.specs.Sums.{measure_of, plus, sums, stops, BlockFits}
use Rattle.bsii_measure_block.specs.Fields.{values_sum}
use Rattle.bsii_measure_block.specs.Blocks.{block_sum, BlockSummed}
use Rattle.bsii_measure_block.specs.declared.sums.Sum.{Sum}
use Rattle.bsii_measure_block.specs.declared.sums.SummedBlock.{SummedBlock}
use Rattle.bsii_measure_block.proofs.SumLaws.{joined_none, plus_none}
use Rattle.bsii_measure_block.proofs.ValueLaws.{sums≢stops}
use Rattle.bsii_measure_block.proofs.BlockLaws.{block_text_law}
use Rattle.bsii_measure.specs.InForce.{in_force_text}
use Rattle.bsii_measure.specs.Walks.{Standing, text_sum, SumMeets, passed, ended as endedSum, refused, SumStepped, SumDefining, SumCarrying}
use Rattle.bsii_measure.specs.declared.walk.Tally.{Tally}
use Rattle.bsii_measure.specs.declared.walk.SumStep.{SumStep}
use Rattle.bsii_measure.specs.declared.walk.SumStep.TheVariants.{Go, End}

-- ---- what one record adds

prototype_adds : (a : Reply ℕ) (env : List Prototype) (at : ℕ) (p : Prototype) → a ≡ plus a (measure_of (in_force_text value_text env at (prototype p ∷ [])))
unfolding in_force_text measure_of
prototype_adds a env at p = sym (plus_none a)

some_is : {A : Type 0} {a b : A} → ◌≡◌ {A = Option A} (some a) (some b) → a ≡ b
some_is e = cc

block_adds : (version : ℕ) (before : Reply ℕ) (env : List Prototype) (s : List ℕ) (at n : ℕ) (b : DataBlock) (w : BlockParts version env s at n b)
    → {d : Prototype} → get_prototype b.prototype_id env ≡ some d → {o : ℕ} → head_parser at (drop at s) ≡ ok (carrying b.prototype_id) o (drop o s)
    → {k : ℕ} {a : Reply ℕ} → sums k a ≡ block_sum value_text version before d (id_parser o (drop o s)) → a ≡ plus before (measure_of (in_force_text value_text env at (block b ∷ [])))
unfolding in_force_text
block_adds version before env s at n b w found {o} head e =
    let by = some_is (sym found ∙ w.found) in
    let place : o ≡ at + length b.head = ok_at (sym head ∙ w.head) in
    outcome_sum (e ∙ ap (λ x. block_sum value_text version before x (id_parser o (drop o s))) by
    ∙ ap (λ x. block_sum value_text version before w.by (id_parser x (drop x s))) place ∙ block_text_law value_text version before env s at n b w)
    ∙ ap (λ x. plus before (measure_of x))
    (ap (λ x. block_text value_text at x b) (sym w.found) ∙ sym (joined_none (block_text value_text at (get_prototype b.prototype_id env) b)))
  where
    outcome_sum : {n m : ℕ} {a b : Reply ℕ} → sums n a ≡ sums m b → a ≡ b
    outcome_sum e = cc

-- ---- from the reading step

-- a prototype is a step
abbrev pub with_prototype : Tally → Tally
with_prototype m = record { text = m.text; steps = m.steps + 1; largest = m.largest }

-- behind which record a step went on, where it went over a prototype
went_over : {env : List (Placed Prototype)} {a q : Progress} {i : Record} {r : ReadStep} → Goes env a i r → r ≡ WentPrototype q → (x : Prototype) × (i ≡ prototype x) × (a ≡ q)
went_over (behind_prototype {p = x}) z = (x, refl, cc)
went_over (behind_block y f) z = cc

ok_step : {a b : ReadStep} → ◌≡◌ {A = Outcome ReadStep Refusal} (Ok a) (Ok b) → a ≡ b
ok_step e = cc

module _ {version : ℕ} {s : List ℕ} {p : Progress} (m : Tally) {t : List ℕ} {env : List (Placed Prototype)} where
  over_prototype_law : {o : Outcome ReadStep Refusal} {t' : List ℕ} → StepMeets version s p t env o t' → {q : Progress} → o ≡ Ok (WentPrototype q) → Standing s p m t
      → SumMeets version s p m t env (Ok (Go q (with_prototype m))) t'
  unfolding record_steps largest_in
  over_prototype_law {t' = t'} (overRecord (prototype x) {n = n} {rows = rows} w g) {q} z h =
      let here : past p (prototype x) n rows ≡ q = (went_over g (ok_step z)).2 in
      subst (λ q. SumMeets version s p m t env (Ok (Go q (with_prototype m))) t') here
      (passed (prototype x) w (record {
        text = prototype_adds (text_sum m) (bare env) p.at x;
        fits = omega (arith, h.fits, w.on);
        steps = refl;
        few = omega (arith, h.few, w.on);
        largest = sym (max-zero m.largest);
      }))
  over_prototype_law (overRecord (block b) w g) z h = let x : block b ≡ prototype _ = (went_over g (ok_step z)).1 in cc
  over_prototype_law (atEnd e) z h = cc
  over_prototype_law (unread e l) z h = cc

module _ {s : List ℕ} {p : Progress} (m : Tally) {t : List ℕ} {id fields : ℕ} {t' : List ℕ} where
  pub sum_defined : {q : Progress} → Defining s p t false id fields (Ok (WentPrototype q)) t' → Standing s p m t → SumDefining s p m t id fields (Ok (Go q (with_prototype m))) t'
  sum_defined d stands = record { steps = λ version env k name h. over_prototype_law m (d.steps version env k tt name h) refl stands }

  pub sum_undefined : {f : Refusal} → Defining s p t false id fields (Err f) t' → SumDefining s p m t id fields (Err f) t'
  sum_undefined d = record { steps = λ version env k name h. refused (d.steps version env k tt name h) }

pub sum_unread : {version : ℕ} {s : List ℕ} {p : Progress} (m : Tally) {t : List ℕ} {id at : ℕ} {f : Refusal} → Carrying version s p t false id at (Err f)
    → SumCarrying version s p m t id at (Err f)
sum_unread m d = record { steps = λ env k h. refused (d.steps env k tt h) }

module _ {version : ℕ} {s : List ℕ} {p : Progress} (m : Tally) {t : List ℕ} where
  pub sum_ended : {n : ℕ} → Stepped version s p t false (Ok (AtEnd n)) t → SumStepped version s p m t (Ok (End n)) t
  sum_ended d = record { steps = λ env k. endedSum (d.steps env k tt) }

  pub sum_refused : {f : Refusal} → Stepped version s p t false (Err f) t → SumStepped version s p m t (Err f) t
  sum_refused d = record { steps = λ env k. refused (d.steps env k tt) }

-- ---- where a block that was measured ends

module _ (version : ℕ) (before : Reply ℕ) (p : Prototype) (s : List ℕ) (at : ℕ) where
  sum_ends : {n : ℕ} {a : Reply ℕ} → sums n a ≡ block_sum value_text version before p (id_parser at (drop at s))
      → ended ((id_parser >>= (λ i. data_values_parser version p.fields)) at (drop at s)) ≡ ok tt n (drop n s)
  unfolding ◌>>=◌ after
  sum_ends {n} {a} h = go (id_parser at (drop at s)) refl h
    where
      values : (b : Reply ℕ) (x : ℕ) (q : Result (List DataValue)) → data_values_parser version p.fields x (drop x s) ≡ q → sums n a ≡ values_sum value_text b x p.fields q
          → ended q ≡ ok tt n (drop n s)
      values b x (ok l i r) z k =
          unfold values_sum ended in
          let j : n ≡ i = cc in
          ap (λ m. ok tt i m) (moved (values_exact version p.fields) s x z).rest ∙ ap (λ m. ok tt m (drop m s)) (sym j)
      values b x (fault f) z k = unfold values_sum in sums≢stops k

      go : (q : Result Id) → id_parser at (drop at s) ≡ q → sums n a ≡ block_sum value_text version before p q
          → ended (after q (λ i. data_values_parser version p.fields)) ≡ ok tt n (drop n s)
      go (ok i x r) z k =
          unfold block_sum in
          let m = (moved id_exact s at z).rest in
          let b = plus before (gives (length (block_opening p.name i) + length closing)) in
          ap (λ l. ended (data_values_parser version p.fields x l)) m
          ∙ values b x (data_values_parser version p.fields x (drop x s)) refl (k ∙ ap (λ l. values_sum value_text b x p.fields (data_values_parser version p.fields x l)) m)
      go (fault f) z k = unfold block_sum in sums≢stops k

  sum_stops : {f : replies.Fault} → stops f ≡ block_sum value_text version before p (id_parser at (drop at s))
      → ended ((id_parser >>= (λ i. data_values_parser version p.fields)) at (drop at s)) ≡ fault f
  unfolding ◌>>=◌ after
  sum_stops {f} h = go (id_parser at (drop at s)) h
    where
      values : (b : Reply ℕ) (x : ℕ) (q : Result (List DataValue)) → stops f ≡ values_sum value_text b x p.fields q → ended q ≡ fault f
      values b x (ok l i r) z = unfold values_sum in sums≢stops (sym z)
      values b x (fault y) z = unfold values_sum ended in let a : y ≡ f = cc in ap fault a

      go : (q : Result Id) → stops f ≡ block_sum value_text version before p q → ended (after q (λ i. data_values_parser version p.fields)) ≡ fault f
      go (ok i x r) z = unfold block_sum in values (plus before (gives (length (block_opening p.name i) + length closing))) x (data_values_parser version p.fields x r) z
      go (fault y) z = unfold block_sum ended in let a : y ≡ f = cc in ap fault a

-- ---- a block

at_offset : {version : ℕ} {s : List ℕ} {at : ℕ} {m : Sum} {z a : ℕ} → z ≡ a → {q : Outcome SummedBlock Refusal} → BlockSummed version s z at m q → BlockSummed version s a at m q
at_offset {version} {s} {at} {m} i {q} w = subst (λ o. BlockSummed version s o at m q) i w

-- a block is a step, and so is each of its values
abbrev pub with_block : Tally → SummedBlock → ℕ → Tally
with_block m q largest = record { text = q.sum; steps = m.steps + 1 + q.values; largest = largest }

-- where a block's own id starts and how many values it has, by the definition in force
block_counts : (version : ℕ) (env : List Prototype) (s : List ℕ) (at n : ℕ) (b : DataBlock) → record_parser version env at (drop at s) ≡ ok (more (block b)) n (drop n s)
    → {d : Prototype} → get_prototype b.prototype_id env ≡ some d → {o : ℕ} → head_parser at (drop at s) ≡ ok (carrying b.prototype_id) o (drop o s)
    → (at < o) × (length d.fields ≡ length b.values)
block_counts version env s at n b e found head =
    let g = record_good env at (drop at s) (more (block b)) n (drop n s) e in
    let w = block_parts_law version env s at n b e in
    let long = head_takes g.good.head in
    let place = ok_at (sym head ∙ w.head) in
    (omega (arith, long, place), ap (λ (p : Prototype). length p.fields) (some_is (sym found ∙ g.good.found)) ∙ values_length g.good.values)

module _ {version : ℕ} {s : List ℕ} {p : Progress} {m : Tally} {t : List ℕ} {id at : ℕ} {r : FoundRow} (f : found_row (Some r) ≡ lookup_tree s t p.rows id) {z : ℕ} (i : z ≡ r.in_force) where
  pub block_refused : {x : Refusal} → BlockSummed version s z at m.text (Err x) → SumCarrying version s p m t id at (Err x)
  block_refused w = record {
    steps = λ env k h.
        let d = found_at (DefinedAt s) k.holds id refl f in
        let v = at_offset i w in
        refused (unread
        (records_fault version (length t / 3) (bare env) p.at s
        (record_block_fault version (bare env) p.at (drop p.at s) h d.1 (sum_stops version (text_sum m) d.0 s at (v.is d.0 d.2))))
        refl);
  }

  pub block_passed : {q : SummedBlock} → BlockSummed version s z at m.text (Ok q) → Standing s p m t → {largest : ℕ} → largest ≡ max m.largest (q.at - p.at)
      → SumCarrying version s p m t id at (Ok (Go (record { at = q.at; rows = p.rows; blocks = p.blocks + 1; prototypes = p.prototypes }) (with_block m q largest)))
  unfolding block_count prototype_count cons_prototype has_room record_steps largest_in
  block_passed {q} w stands {largest} l = record {
    steps = λ env k h.
        let n = q.at in
        let before = text_sum m in
        let d = found_at (DefinedAt s) k.holds id refl f in
        let v = at_offset i w in
        let fine : BlockFits s at (Ok q) = v.fine in
        let u = record_block version (bare env) p.at (drop p.at s) h d.1 (sum_ends version before d.0 s at (v.is d.0 d.2)) in
        let head = h ∙ ap (λ j. ok (carrying j) at (drop at s)) (sym u.2) in
        let found = ap (λ j. get_prototype j (bare env)) u.2 ∙ d.1 in
        let x : PastRecord version s p t env (block u.0) n p.rows t = past_record (block u.0) u.1 refl k refl in
        let c = block_counts version (bare env) s p.at n u.0 u.1 found head in
        let count : q.values ≡ length d.0.fields = v.counts d.0 d.2 in
        let long : n - p.at ≡ length (record_bytes (block u.0)) = omega (arith, x.long) in
        subst (λ x. SumMeets version s p m t env (Ok (Go (record { at = n; rows = p.rows; blocks = p.blocks + 1; prototypes = x }) (with_block m q largest))) t) (add-zero p.prototypes)
        (passed (block u.0) x (record {
          text = block_adds version before (bare env) s p.at n u.0 (block_parts_law version (bare env) s p.at n u.0 u.1) found head (v.is d.0 d.2);
          fits = fine.2;
          steps = omega (arith, count, c.1);
          few = omega (arith, stands.few, c.0, fine.0);
          largest = l ∙ ap (max m.largest) (long ∙ sym (max-zero (length (record_bytes (block u.0)))));
        }));
  }

-- ---- a record by its head

pub head_moves : (s : List ℕ) (at : ℕ) {h : HeadAnswer} → head_is s (Ok h) ≡ head_parser at (drop at s) → {id next : ℕ} → h ≡ HeadBlock id next → at ≤ length s → (at ≤ next) × (next ≤ length s)
head_moves s at e z i = let v = moved head_exact s at (head_law s at e z) in (v.later, v.inside i)

module _ {version : ℕ} {s : List ℕ} {p : Progress} {m : Tally} {t : List ℕ} {h : HeadAnswer} (e : head_is s (Ok h) ≡ head_parser p.at (drop p.at s)) where
  pub sum_defining : {id name next : ℕ} {r : Outcome SumStep Refusal} {t' : List ℕ} → h ≡ HeadPrototype id name next → SumDefining s p m t id next r t' → SumStepped version s p m t r t'
  sum_defining z d = record { steps = λ env k. d.steps version env k _ (head_law s p.at e z) }

  pub sum_carrying : {id next : ℕ} {r : Outcome SumStep Refusal} → h ≡ HeadBlock id next → SumCarrying version s p m t id next r → SumStepped version s p m t r t
  sum_carrying z d = record { steps = λ env k. d.steps env k (head_law s p.at e z) }
