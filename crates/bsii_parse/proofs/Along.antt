-- The reading walk as a whole: what holds at each turn of its loop, and what follows at its end.
use mathlib.Core.Path.{◌≡◌, refl, sym, ap, ◌∙◌, subst}
use Prim.Native.Nat.{ℕ, suc, ◌+◌, ◌/◌, ◌≤◌, ◌<◌}
use native.Mathlib.Nat.{add-zero}
use native.Mathlib.Omega.{arith}
use mathlib.Core.Bool.{Bool, true, false, cond}
use mathlib.Core.List.{List, [], ◌∷◌, ◌++◌, append-nil}
use lib.ListN.{length, drop, length-append}
use Rattle.bsii_format.specs.Reader.{Result, ok, fault}
use Rattle.bsii_format.specs.Strings.{is_some}
use Rattle.bsii_format.specs.Prototypes.{Prototype}
use Rattle.bsii_format.specs.Blocks.{get_prototype}
use Rattle.bsii_format.specs.File.{Record, prototype, block, record_bytes, records_bytes, Records, length_limit, define, distinct_ids}
use Rattle.bsii_format.specs.Calls.{Placed, placed, cons_prototype, prototypes_in}
use Rattle.bsii_format.proofs.Readers.{fault≢ok, ok_val, ok_move}
use Rattle.bsii_string.specs.Answers.{fault_is}
use Rattle.bsii_string.specs.declared.answers.Refusal.{Refusal}
use Rattle.bsii_block.specs.Blocks.{Assured}
use Rattle.bsii_parse.specs.Walks.{block_count, prototype_count, behind, records_at, bare, Growing, Ready, past, Goes, behind_prototype, behind_block, PastRecord, StepMeets, passed, ended, refused}
use Rattle.bsii_parse.specs.declared.walk.Progress.{Progress}
use Rattle.bsii_parse.specs.declared.walk.ReadStep.{ReadStep}
use Rattle.bsii_parse.specs.declared.walk.Under.{Under}
use Rattle.bsii_parse.specs.declared.walk.ReadStep.TheVariants.{Prototype as WentPrototype, Block as WentBlock, End}
use Rattle.bsii_parse.proofs.Records.{behind_behind, block_count_append, prototype_count_append}
use Rattle.bsii_parse.proofs.Tables.{growing_none, bare_cons}
use Rattle.std.specs.Prelude.{Ok, Err, Result as Outcome}

abbrev size_of : Record → ℕ
size_of r = length (record_bytes r)

-- the definitions of records that stand from `start` on
abbrev pub defs_from : ℕ → List Record → List (Placed Prototype)
defs_from start l = prototypes_in (placed size_of start l) []

defs_snoc : (at : ℕ) (l : List Record) (i : Record) (env : List (Placed Prototype))
    → prototypes_in (placed size_of at (l ++ (i ∷ []))) env ≡ cons_prototype (at + length (records_bytes l)) i (prototypes_in (placed size_of at l) env)
unfolding prototypes_in placed records_bytes
defs_snoc at [] i env = ap (λ n. cons_prototype n i env) (sym (add-zero at))
defs_snoc at (x ∷ l) i env =
    defs_snoc (at + size_of x) l i (cons_prototype at x env)
    ∙ ap (λ n. cons_prototype n i (prototypes_in (placed size_of (at + size_of x) l) (cons_prototype at x env))) (rw length-append (omega arith))

bytes_snoc : (l : List Record) (i : Record) → length (records_bytes (l ++ (i ∷ []))) ≡ length (records_bytes l) + length (record_bytes i)
unfolding records_bytes
bytes_snoc [] i = rw length-append (omega arith)
bytes_snoc (x ∷ l) i = rw (length-append, length-append) (omega (arith, bytes_snoc l i))

-- the records `so` were passed from `start` on, and the walk stands at p with the table t; t₀ is the table that came in
pub record Along (version : ℕ) (s : List ℕ) (start : ℕ) (t₀ : List ℕ) (p : Progress) (t : List ℕ) : Type 0 where
  pub so : List Record
  pub place : p.at ≡ start + length (records_bytes so)
  pub inside : p.at ≤ length s
  pub counted : p.blocks ≤ p.at
  pub blocks : p.blocks ≡ block_count so
  pub defined : p.prototypes ≤ p.at
  pub prototypes : p.prototypes ≡ prototype_count so
  pub size : length t ≡ length t₀
  pub few : p.rows ≤ p.at
  pub kept : Growing s t p.rows (defs_from start so)
  pub rest : records_at version (length t₀ / 3) [] start s ≡ behind so (records_at version (length t₀ / 3) (bare (defs_from start so)) p.at s)

behind_none : (q : Result Records) → q ≡ behind [] q
unfolding behind
behind_none (ok q at r) = refl
behind_none (fault f) = refl

behind_ok : (l : List Record) (x : Result Records) {q : Records} {n : ℕ} {u : List ℕ} → behind l x ≡ ok q n u
    → (y : Records) × (x ≡ ok y n u) × (q.records ≡ l ++ y.records)
unfolding behind
behind_ok l (ok y at r) {q} {n} {u} e = (y, ok_move (λ v m w. ok y at r ≡ ok y m w) e refl, sym (ap (λ (z : Records). z.records) (ok_val e)))
behind_ok l (fault f) e = fault≢ok e

pub along_start : {version : ℕ} (s : List ℕ) (start : ℕ) (t : List ℕ) → start ≤ length s
    → Along version s start t (record { at = start; rows = 0; blocks = 0; prototypes = 0 }) t
unfolding records_bytes block_count prototype_count prototypes_in placed
along_start {version} s start t h = record {
  so = [];
  place = sym (add-zero start);
  inside = h;
  counted = omega arith;
  blocks = refl;
  defined = omega arith;
  prototypes = refl;
  size = refl;
  few = omega arith;
  kept = growing_none s t;
  rest = behind_none (records_at version (length t / 3) [] start s);
}

pub along_none : (version : ℕ) (s : List ℕ) (start : ℕ) (t : List ℕ) (h : start ≤ length s) → (along_start {version = version} s start t h).so ≡ []
unfolding along_start
along_none version s start t h = refl

pub along_ready : {version : ℕ} {s : List ℕ} {start : ℕ} {t₀ : List ℕ} {p : Progress} {t : List ℕ} → length s ≤ length_limit → Along version s start t₀ p t
    → Ready s p t
along_ready h a = record { short = h; inside = a.inside; counted = a.counted; defined = a.defined; rows = a.kept.holds.valid; few = a.few }

-- where a walk goes on behind a step
abbrev Went : ReadStep → Progress → Type 0
Went (WentPrototype p) q = p ≡ q
Went (WentBlock p u) q = p ≡ q
Went (End n) q = ⊥

went : {env : List (Placed Prototype)} {p : Progress} {i : Record} {r : ReadStep} → Goes env p i r → {q : Progress} → Went r q → p ≡ q
went behind_prototype e = e
went (behind_block p f) e = e

goes≢end : {P : Type 0} {env : List (Placed Prototype)} {p : Progress} {i : Record} {r : ReadStep} → Goes env p i r → {n : ℕ} → r ≡ End n → P
goes≢end behind_prototype e = cc
goes≢end (behind_block p f) e = cc

-- a record defines one id at most
distinct_more : (i : Record) (env : List Prototype) → distinct_ids (define i env) ≤ suc (distinct_ids env)
unfolding distinct_ids define
distinct_more (prototype p) env = go (is_some (get_prototype p.id env))
  where
    go : (b : Bool) → cond b (distinct_ids env) (suc (distinct_ids env)) ≤ suc (distinct_ids env)
    go true = omega arith
    go false = omega arith
distinct_more (block b) env = omega arith

-- one more record, by the step r; the position rises, so the loop ends
pub record Further (version : ℕ) (s : List ℕ) (start : ℕ) (t₀ : List ℕ) (p : Progress) (so : List Record) (r : ReadStep) (q : Progress) (t : List ℕ) : Type 0 where
  pub on : p.at < q.at
  pub along : Along version s start t₀ q t
  pub one : Record
  pub so_far : along.so ≡ so ++ (one ∷ [])
  pub long : q.at ≡ p.at + length (record_bytes one)
  pub counts : q.blocks ≡ p.blocks + block_count (one ∷ [])
  pub goes : Goes (defs_from start so) q one r

module _ {version : ℕ} {s : List ℕ} {start : ℕ} {t₀ : List ℕ} {p : Progress} {t : List ℕ} (a : Along version s start t₀ p t) where
  rooms : length t / 3 ≡ length t₀ / 3
  rooms = ap (λ m. m / 3) a.size

  -- the records from `start` on, by what the rest is read as
  from_here : {q : Result Records} → records_at version (length t / 3) (bare (defs_from start a.so)) p.at s ≡ q → records_at version (length t₀ / 3) [] start s ≡ behind a.so q
  from_here e = a.rest ∙ ap (behind a.so) (ap (λ m. records_at version m (bare (defs_from start a.so)) p.at s) (sym rooms) ∙ e)

  -- one more record
  pub along_passed : (i : Record) {n rows : ℕ} {t' : List ℕ} → PastRecord version s p t (defs_from start a.so) i n rows t'
      → (b : Along version s start t₀ (past p i n rows) t') × (b.so ≡ a.so ++ (i ∷ []))
  unfolding block_count prototype_count
  along_passed i {n} {rows} {t'} w =
      let defs : defs_from start (a.so ++ (i ∷ [])) ≡ cons_prototype p.at i (defs_from start a.so) =
      defs_snoc start a.so i [] ∙ ap (λ m. cons_prototype m i (defs_from start a.so)) (sym a.place) in (
        record {
          so = a.so ++ (i ∷ []);
          place = w.long ∙ rw bytes_snoc (omega (arith, a.place));
          inside = w.inside;
          counted = more_blocks i p.blocks a.counted w.on;
          blocks = ap (λ m. m + block_count (i ∷ [])) a.blocks ∙ sym (block_count_append a.so (i ∷ []));
          defined = more_prototypes i p.prototypes a.defined w.on;
          prototypes = ap (λ m. m + prototype_count (i ∷ [])) a.prototypes ∙ sym (prototype_count_append a.so (i ∷ []));
          size = w.size ∙ a.size;
          few = omega (
            arith,
            w.kept.holds.count,
            a.kept.holds.count,
            ap distinct_ids (bare_cons p.at i (defs_from start a.so)),
            distinct_more i (bare (defs_from start a.so)),
            a.few,
            w.on,
          );
          kept = subst (λ d. Growing s t' rows d) (sym defs) w.kept;
          rest = from_here (w.records ∙ ap (λ m. behind (i ∷ []) (records_at version m (bare (cons_prototype p.at i (defs_from start a.so))) n s)) rooms)
              ∙ behind_behind a.so (i ∷ []) (records_at version (length t₀ / 3) (bare (cons_prototype p.at i (defs_from start a.so))) n s)
              ∙ ap (λ d. behind (a.so ++ (i ∷ [])) (records_at version (length t₀ / 3) (bare d) n s)) (sym defs);
        },
        refl,
      )
    where
      more_blocks : (i : Record) (b : ℕ) {at n : ℕ} → b ≤ at → at < n → b + block_count (i ∷ []) ≤ n
      more_blocks (prototype x) b h k = unfold block_count in omega arith
      more_blocks (block x) b h k = unfold block_count in omega arith

      more_prototypes : (i : Record) (b : ℕ) {at n : ℕ} → b ≤ at → at < n → b + prototype_count (i ∷ []) ≤ n
      more_prototypes (prototype x) b h k = unfold prototype_count in omega arith
      more_prototypes (block x) b h k = unfold prototype_count in omega arith

  along_step : {o : Outcome ReadStep Refusal} {r : ReadStep} {t' : List ℕ} → StepMeets version s p t (defs_from start a.so) o t' → o ≡ Ok r → {q : Progress} → Went r q
      → Further version s start t₀ p a.so r q t'
  along_step {r = r} {t'} (passed i {r = x} w goes) e z =
      let b = along_passed i w in
      let y : x ≡ r = cc in
      let g = subst (Goes (defs_from start a.so) (past p i _ _) i) y goes in
      subst (λ q. Further version s start t₀ p a.so r q t') (went g z)
      (record { on = w.on; along = b.0; one = i; so_far = b.1; long = w.long; counts = refl; goes = g })
  along_step {r = r} (ended {n = n} x) e {q} z = let y : r ≡ End n = cc in absurd (subst (λ r. Went r q) y z)
  along_step (refused x l) e z = cc

  pub along_prototype : {r : ReadStep} {t' : List ℕ} → StepMeets version s p t (defs_from start a.so) (Ok r) t' → {q : Progress} → r ≡ WentPrototype q
      → Further version s start t₀ p a.so r q t'
  along_prototype m {q} z = along_step m refl (subst (λ r. Went r q) (sym z) refl)

  pub along_block : {r : ReadStep} {t' : List ℕ} → StepMeets version s p t (defs_from start a.so) (Ok r) t' → {q : Progress} {u : Under} → r ≡ WentBlock q u
      → Further version s start t₀ p a.so r q t'
  along_block m {q} z = along_step m refl (subst (λ r. Went r q) (sym z) refl)

  -- at the end record
  pub record Ends (n : ℕ) (t' : List ℕ) : Type 0 where
    pub end : List ℕ
    pub all : records_at version (length t₀ / 3) [] start s ≡ ok (record { records = a.so; end = end }) n (drop n s)
    pub kept : Growing s t' p.rows (defs_from start a.so)
    pub size : length t' ≡ length t₀

  all_of : {o : Outcome ReadStep Refusal} {t' : List ℕ} → StepMeets version s p t (defs_from start a.so) o t' → {n : ℕ} → o ≡ Ok (End n) → Ends n t'
  all_of (passed i {r = x} w goes) {n} z = let y : x ≡ End n = cc in goes≢end goes y
  all_of (refused e l) z = cc
  all_of (ended {l = l} {n = m} e) {n} z =
      let here : m ≡ n = cc in
      subst (λ k. Ends k t) here (record { end = l; all = from_here e ∙ last l m; kept = a.kept; size = a.size })
    where
      last : (l : List ℕ) (m : ℕ) → behind a.so (ok (record { records = []; end = l }) m (drop m s)) ≡ ok (record { records = a.so; end = l }) m (drop m s)
      last l m = unfold behind in ap (λ w. ok (record { records = w; end = l }) m (drop m s)) (append-nil a.so)

  pub along_all : {r : ReadStep} {t' : List ℕ} → StepMeets version s p t (defs_from start a.so) (Ok r) t' → {n : ℕ} → r ≡ End n → Ends n t'
  along_all m z = all_of m (ap Ok z)

  refused_of : {o : Outcome ReadStep Refusal} {t' : List ℕ} → StepMeets version s p t (defs_from start a.so) o t' → {f : Refusal} → o ≡ Err f
      → (records_at version (length t₀ / 3) [] start s ≡ fault (fault_is f)) × (length t' ≡ length t₀)
  unfolding behind
  refused_of (passed i w goes) z = cc
  refused_of (ended e) z = cc
  refused_of (refused {f = x} e l) {f} z = let same : x ≡ f = cc in (from_here e ∙ ap (λ w. fault (fault_is w)) same, l ∙ a.size)

  pub along_refused : {f : Refusal} {t' : List ℕ} → StepMeets version s p t (defs_from start a.so) (Err f) t'
      → (records_at version (length t₀ / 3) [] start s ≡ fault (fault_is f)) × (length t' ≡ length t₀)
  along_refused m = refused_of m refl

  -- where the whole is accepted, what is left is, and stands behind what was passed
  pub along_accepted : {q : Records} {n : ℕ} {u : List ℕ} → records_at version (length t₀ / 3) [] start s ≡ ok q n u
      → Assured true (records_at version (length t / 3) (bare (defs_from start a.so)) p.at s)
  along_accepted {n = n} {u = u} e =
      let x = behind_ok a.so (records_at version (length t₀ / 3) (bare (defs_from start a.so)) p.at s) (sym a.rest ∙ e) in
      (x.0, n, u, ap (λ m. records_at version m (bare (defs_from start a.so)) p.at s) rooms ∙ x.1)

  pub along_within : {q : Records} {n : ℕ} {u : List ℕ} → records_at version (length t₀ / 3) [] start s ≡ ok q n u → (l : List Record) × (q.records ≡ a.so ++ l)
  along_within e =
      let x = behind_ok a.so (records_at version (length t₀ / 3) (bare (defs_from start a.so)) p.at s) (sym a.rest ∙ e) in
      (x.0.records, x.2)
