-- The walk as a whole: what holds at each turn of its loop, and what follows at its end.
use mathlib.Core.Path.{◌≡◌, refl, sym, ap, ◌∙◌, subst}
use Prim.Native.Nat.{ℕ, ◌+◌, ◌*◌, ◌-◌, ◌≤◌, ◌<◌, max}
use native.Mathlib.Nat.{zero-max}
use native.Mathlib.Omega.{arith}
use mathlib.Core.List.{List, [], ◌∷◌, ◌++◌}
use lib.ListN.{length}
use Rattle.bsii_format.specs.File.{Record, prototype, block, record_bytes, records_bytes, length_limit, define_all}
use Rattle.bsii_format.specs.Calls.{record_steps, records_steps}
use Rattle.bsii_format.specs.Text.{value_text}
use Rattle.bsii_derived.specs.Forecast.{largest_in}
use Rattle.bsii_length.specs.Bounds.{line_bound}
use Rattle.bsii_string.specs.declared.answers.Refusal.{Refusal}
use Rattle.bsii_parse.specs.Walks.{bare, block_count}
use Rattle.bsii_parse.specs.declared.walk.Progress.{Progress}
use Rattle.bsii_parse.specs.declared.walk.Totals.{Totals}
use Rattle.bsii_parse.proofs.Tables.{bare_all}
use Rattle.bsii_parse.proofs.Along.{defs_from, Along, along_start, along_none, along_ready, along_passed, along_all, along_refused}
use Rattle.bsii_measure_block.specs.Sums.{measure_of, plus, sum_is}
use Rattle.bsii_measure_block.proofs.SumLaws.{measure_joined}
use Rattle.bsii_measure.specs.InForce.{in_force_text}
use Rattle.bsii_measure.specs.Walks.{Standing, text_sum, SumMeets, passed, ended, refused, SumStepped, measured_as, SumWalks, walked, stopped}
use Rattle.bsii_measure.specs.declared.walk.Tally.{Tally}
use Rattle.bsii_measure.specs.declared.walk.SumStep.{SumStep}
use Rattle.bsii_measure.specs.declared.walk.SumStep.TheVariants.{Go, End}
use Rattle.std.specs.Prelude.{Ok, Err, None, Result as Outcome}
use Rattle.bsii_measure.proofs.InForceLaws.{in_force_append}

-- ---- one record more

steps_append : (l : List Record) (i : Record) → records_steps (l ++ (i ∷ [])) ≡ records_steps l + record_steps i
unfolding records_steps
steps_append [] i = omega arith
steps_append (x ∷ l) i = omega (arith, steps_append l i)

largest_append : (l : List Record) (i : Record) → largest_in (l ++ (i ∷ [])) ≡ max (largest_in l) (largest_in (i ∷ []))
unfolding largest_in
largest_append [] i = sym (zero-max (largest_in (i ∷ [])))
largest_append (prototype p ∷ l) i = largest_append l i
largest_append (block b ∷ l) i = ap (max (length (record_bytes (block b)))) (largest_append l i) ∙ omega arith

-- the records passed were read, their text under the definitions in force is added up, and so are their steps
pub record Walking (version : ℕ) (s : List ℕ) (start : ℕ) (t₀ : List ℕ) (p : Progress) (m : Tally) (t : List ℕ) : Type 0 where
  pub along : Along version s start t₀ p t
  pub sum : text_sum m ≡ measure_of (in_force_text value_text [] start along.so)
  pub fits : m.text.to ≤ line_bound * p.at
  pub steps : m.steps ≡ records_steps along.so
  pub few : m.steps ≤ p.at
  pub largest : m.largest ≡ largest_in along.so

abbrev pub nothing : Tally
nothing = record { text = record { to = 0; missing = None }; steps = 0; largest = 0 }

pub walking_start : {version : ℕ} (s : List ℕ) (start : ℕ) (t : List ℕ) → start ≤ length s
    → Walking version s start t (record { at = start; rows = 0; blocks = 0; prototypes = 0 }) nothing t
unfolding sum_is measure_of in_force_text records_steps largest_in
walking_start {version} s start t h =
    let none = sym (along_none version s start t h) in
    record {
      along = along_start s start t h;
      sum = ap (λ l. measure_of (in_force_text value_text [] start l)) none;
      fits = omega arith;
      steps = ap records_steps none;
      few = omega arith;
      largest = ap largest_in none;
    }

-- the end record is a step
abbrev pub with_end : Tally → Tally
with_end m = record { text = m.text; steps = m.steps + 1; largest = m.largest }

-- one more record; the position rises, so the loop ends
pub record Onward (version : ℕ) (s : List ℕ) (start : ℕ) (t₀ : List ℕ) (p q : Progress) (m : Tally) (t : List ℕ) : Type 0 where
  pub less : length s - q.at < length s - p.at
  pub walking : Walking version s start t₀ q m t

module _ {version : ℕ} {s : List ℕ} {start : ℕ} {t₀ : List ℕ} {p : Progress} {m : Tally} {t : List ℕ} (w : Walking version s start t₀ p m t) where
  pub walking_stands : length s ≤ length_limit → Standing s p m t
  walking_stands h = record { ready = along_ready h w.along; fits = w.fits; few = w.few }

  -- the text of the records passed, and of the one behind them
  more_text : (i : Record) (so : List Record) → so ≡ w.along.so ++ (i ∷ [])
      → plus (text_sum m) (measure_of (in_force_text value_text (bare (defs_from start w.along.so)) p.at (i ∷ [])))
      ≡ measure_of (in_force_text value_text [] start so)
  more_text i so e =
      let l = w.along.so in
      let front = in_force_text value_text [] start l in
      let here = in_force_text value_text (define_all l []) (start + length (records_bytes l)) (i ∷ []) in
      ap (λ x. plus x (measure_of (in_force_text value_text (bare (defs_from start l)) p.at (i ∷ [])))) w.sum
      ∙ ap (λ d. plus (measure_of front) (measure_of (in_force_text value_text d p.at (i ∷ [])))) (bare_all (λ r. length (record_bytes r)) start l [])
      ∙ ap (λ n. plus (measure_of front) (measure_of (in_force_text value_text (define_all l []) n (i ∷ [])))) w.along.place
      ∙ sym (measure_joined front here)
      ∙ ap measure_of (sym (in_force_append value_text [] start l (i ∷ [])) ∙ ap (in_force_text value_text [] start) (sym e))

  going : {r : Outcome SumStep Refusal} {t' : List ℕ} → SumMeets version s p m t (defs_from start w.along.so) r t' → {q : Progress} {l : Tally} → r ≡ Ok (Go q l)
      → Onward version s start t₀ p q l t'
  going {t' = t'} (passed i {n = n} {rows = rows} {m' = m'} x adds) {q} {l} z =
      let a = along_passed w.along i x in
      subst (λ k. Onward version s start t₀ p q k t') (go_sum z)
      (subst (λ k. Onward version s start t₀ p k m' t') (go_progress z)
      (record {
        less = omega (arith, x.on, x.inside);
        walking = record {
          along = a.0;
          sum = adds.text ∙ more_text i a.0.so a.1;
          fits = adds.fits;
          steps = adds.steps ∙ ap (λ n. n + record_steps i) w.steps ∙ sym (ap records_steps a.1 ∙ steps_append w.along.so i);
          few = adds.few;
          largest = adds.largest ∙ ap (λ n. max n (largest_in (i ∷ []))) w.largest ∙ sym (ap largest_in a.1 ∙ largest_append w.along.so i);
        };
      }))
    where
      go_progress : {p q : Progress} {m l : Tally} → ◌≡◌ {A = Outcome SumStep Refusal} (Ok (Go p m)) (Ok (Go q l)) → p ≡ q
      go_progress e = cc

      go_sum : {p q : Progress} {m l : Tally} → ◌≡◌ {A = Outcome SumStep Refusal} (Ok (Go p m)) (Ok (Go q l)) → m ≡ l
      go_sum e = cc
  going (ended e) z = cc
  going (refused e) z = cc

  ending : {r : Outcome SumStep Refusal} {t' : List ℕ} → SumMeets version s p m t (defs_from start w.along.so) r t' → {n : ℕ} → r ≡ Ok (End n)
      → SumWalks version s start t₀ (measured_as (record { version = version; rows = p.rows; blocks = p.blocks; prototypes = p.prototypes; next = n }) (with_end m)) t'
  ending (passed i x adds) z = cc
  ending (refused e) z = cc
  ending {t' = t'} (ended {n = j} e) {n} z =
      let x = along_all w.along e refl in
      let here : j ≡ n = cc in
      subst (λ k. SumWalks version s start t₀ (measured_as (totals k p.blocks p.prototypes) (with_end m)) t') here
      (subst (λ k. SumWalks version s start t₀ (measured_as (totals j k p.prototypes) (with_end m)) t') (sym w.along.blocks)
      (subst (λ k. SumWalks version s start t₀ (measured_as (totals j (block_count w.along.so) k) (with_end m)) t') (sym w.along.prototypes)
      (walked (record { records = w.along.so; end = x.end }) x.all x.kept x.size (record { text = w.sum; steps = ap (λ n. n + 1) w.steps; largest = w.largest }) (omega (arith, w.fits, w.along.inside)))))
    where
      totals : ℕ → ℕ → ℕ → Totals
      totals n b d = record { version = version; rows = p.rows; blocks = b; prototypes = d; next = n }

  stopping : {r : Outcome SumStep Refusal} {t' : List ℕ} → SumMeets version s p m t (defs_from start w.along.so) r t' → {f : Refusal} → r ≡ Err f
      → SumWalks version s start t₀ (Err f) t'
  stopping (passed i x adds) z = cc
  stopping (ended e) z = cc
  stopping {t' = t'} (refused {f = y} e) {f} z =
      let x = along_refused w.along e in
      let here : y ≡ f = cc in
      subst (λ k. SumWalks version s start t₀ (Err k) t') here (stopped x.0 x.1)

  module _ {t' : List ℕ} where
    meets : {r : Outcome SumStep Refusal} → SumStepped version s p m t r t' → SumMeets version s p m t (defs_from start w.along.so) r t'
    meets k = k.steps (defs_from start w.along.so) w.along.kept

    pub walking_go : {r : SumStep} → SumStepped version s p m t (Ok r) t' → {q : Progress} {l : Tally} → r ≡ Go q l → Onward version s start t₀ p q l t'
    walking_go k z = going (meets k) (ap Ok z)

    pub walking_end : {r : SumStep} → SumStepped version s p m t (Ok r) t' → {n : ℕ} → r ≡ End n
        → SumWalks version s start t₀ (measured_as (record { version = version; rows = p.rows; blocks = p.blocks; prototypes = p.prototypes; next = n }) (with_end m)) t'
    walking_end k z = ending (meets k) (ap Ok z)

    pub walking_stop : {f : Refusal} → SumStepped version s p m t (Err f) t' → SumWalks version s start t₀ (Err f) t'
    walking_stop k = stopping (meets k) refl
