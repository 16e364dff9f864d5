-- A step of the walk, and the whole walk: those of the reading walk, with what is added up.
use Rattle.std.specs.Prelude.{◌≡◌, ℕ, ◌+◌, ◌*◌, ◌/◌, ◌≤◌, max, List, [], ◌∷◌, length, drop, Ok, Err, Result as Outcome}
use Rattle.bsii_format.specs.Replies.{Reply}
use Rattle.bsii_format.specs.Reader.{ok, fault}
use Rattle.bsii_format.specs.Prototypes.{Prototype}
use Rattle.bsii_format.specs.File.{Record, defining, carrying, head_parser, record_bytes, Records}
use Rattle.bsii_format.specs.Calls.{Placed, placed, prototypes_in, record_steps, records_steps}
use Rattle.bsii_format.specs.Text.{value_text}
use Rattle.bsii_derived.specs.Forecast.{largest_in}
use Rattle.bsii_length.specs.Bounds.{line_bound}
use Rattle.bsii_string.specs.Answers.{fault_is}
use Rattle.bsii_string.specs.declared.answers.Refusal.{Refusal}
use Rattle.bsii_parse.specs.Walks.{records_at, bare, Growing, Ready, past, PastRecord, StepMeets, totals_of}
use Rattle.bsii_parse.specs.declared.walk.Progress.{Progress}
use Rattle.bsii_parse.specs.declared.walk.ReadStep.TheVariants.{End as AtEnd}
use Rattle.bsii_parse.specs.declared.walk.Totals.{Totals}
use Rattle.bsii_measure_block.specs.Sums.{measure_of, plus, sum_is}
use Rattle.bsii_measure.specs.InForce.{in_force_text}
use Rattle.bsii_measure.specs.declared.walk.Tally.{Tally}
use Rattle.bsii_measure.specs.declared.walk.SumStep.{SumStep}
use Rattle.bsii_measure.specs.declared.walk.SumStep.TheVariants.{Go, End}
use Rattle.bsii_measure.specs.declared.walk.Measuring.{Measuring}

-- what a step needs: the sums so far fit
pub record Standing (s : List ℕ) (p : Progress) (m : Tally) (t : List ℕ) : Type 0 where
  pub ready : Ready s p t
  pub fits : m.text.to ≤ line_bound * p.at
  pub few : m.steps ≤ p.at

-- the sum of the text as its length, or its 9
abbrev pub text_sum : Tally → Reply ℕ
text_sum m = sum_is m.text.to m.text.missing

-- what the record i, from `at` to n, adds: its text under the definitions env, its steps, and its bytes if it is the largest block
pub record Adds (env : List Prototype) (at n : ℕ) (i : Record) (m m' : Tally) : Type 0 where
  pub text : text_sum m' ≡ plus (text_sum m) (measure_of (in_force_text value_text env at (i ∷ [])))
  pub fits : m'.text.to ≤ line_bound * n
  pub steps : m'.steps ≡ m.steps + record_steps i
  pub few : m'.steps ≤ n
  pub largest : m'.largest ≡ max m.largest (largest_in (i ∷ []))

-- For the definitions that the table holds: a record was passed and added; or the walk is where the reading walk is, at the end record or at a fault.
pub data SumMeets (version : ℕ) (s : List ℕ) (p : Progress) (m : Tally) (t : List ℕ) (env : List (Placed Prototype)) : Outcome SumStep Refusal → List ℕ → Type 0 where
  passed : (i : Record) {n rows : ℕ} {m' : Tally} {t' : List ℕ} → PastRecord version s p t env i n rows t' → Adds (bare env) p.at n i m m'
      → SumMeets version s p m t env (Ok (Go (past p i n rows) m')) t'
  ended : {n : ℕ} {t' : List ℕ} → StepMeets version s p t env (Ok (AtEnd n)) t' → SumMeets version s p m t env (Ok (End n)) t'
  refused : {f : Refusal} {t' : List ℕ} → StepMeets version s p t env (Err f) t' → SumMeets version s p m t env (Err f) t'

pub record SumStepped (version : ℕ) (s : List ℕ) (p : Progress) (m : Tally) (t : List ℕ) (r : Outcome SumStep Refusal) (t' : List ℕ) : Type 0 where
  pub steps : (env : List (Placed Prototype)) → Growing s t p.rows env → SumMeets version s p m t env r t'

-- the same where the head is read already: a prototype's definitions start at `fields`, in every version, a block's id at `at`
pub record SumDefining (s : List ℕ) (p : Progress) (m : Tally) (t : List ℕ) (id fields : ℕ) (r : Outcome SumStep Refusal) (t' : List ℕ) : Type 0 where
  pub steps : (version : ℕ) (env : List (Placed Prototype)) → Growing s t p.rows env → (name : List ℕ)
      → head_parser p.at (drop p.at s) ≡ ok (defining id name) fields (drop fields s) → SumMeets version s p m t env r t'

pub record SumCarrying (version : ℕ) (s : List ℕ) (p : Progress) (m : Tally) (t : List ℕ) (id at : ℕ) (r : Outcome SumStep Refusal) : Type 0 where
  pub steps : (env : List (Placed Prototype)) → Growing s t p.rows env → head_parser p.at (drop p.at s) ≡ ok (carrying id) at (drop at s)
      → SumMeets version s p m t env r t

-- what is added up of records from `start` on, the end record's step included
pub record TallyOf (start : ℕ) (l : List Record) (m : Tally) : Type 0 where
  pub text : text_sum m ≡ measure_of (in_force_text value_text [] start l)
  pub steps : m.steps ≡ records_steps l + 1
  pub largest : m.largest ≡ largest_in l

abbrev pub measured_as : Totals → Tally → Outcome Measuring Refusal
measured_as a m = Ok (record { totals = a; tally = m })

-- the whole walk from `start` on: what the reading walk finds, and the tally, with the text under the definitions in force
pub data SumWalks (version : ℕ) (s : List ℕ) (start : ℕ) (t : List ℕ) : Outcome Measuring Refusal → List ℕ → Type 0 where
  walked : (q : Records) {rows n : ℕ} {m : Tally} {t' : List ℕ} → records_at version (length t / 3) [] start s ≡ ok q n (drop n s)
      → Growing s t' rows (prototypes_in (placed (λ r. length (record_bytes r)) start q.records) []) → length t' ≡ length t
      → TallyOf start q.records m → m.text.to ≤ line_bound * length s
      → SumWalks version s start t (measured_as (totals_of version rows q.records n) m) t'
  stopped : {f : Refusal} {t' : List ℕ} → records_at version (length t / 3) [] start s ≡ fault (fault_is f) → length t' ≡ length t
      → SumWalks version s start t (Err f) t'
