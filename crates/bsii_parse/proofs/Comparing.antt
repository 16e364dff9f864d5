-- The reading walk beside an index: how many index records of the blocks passed stand at the index's front, and what follows at the end.
use mathlib.Core.Path.{◌≡◌, sym, ap, ◌∙◌, subst}
use Prim.Native.Nat.{ℕ, ◌≤◌}
use native.Mathlib.Omega.{arith}
use mathlib.Core.Bool.{false}
use mathlib.Core.List.{List, [], ◌∷◌, ◌++◌}
use lib.ListN.{length, length-append}
use Rattle.bsii_format.specs.File.{length_limit}
use Rattle.bsii_format.specs.Calls.{placed}
use Rattle.bsii_string.specs.declared.answers.Refusal.{Refusal}
use Rattle.bsii_derived.specs.Index.{index_from, agreeing}
use Rattle.bsii_index_record.specs.Records.{record_is, Agrees}
use Rattle.bsii_index_record.specs.declared.IndexRecord.{IndexRecord}
use Rattle.bsii_parse.specs.Walks.{block_count, StepMeets, Stepped, index_at, compared_as, Compares, walked, stopped}
use Rattle.bsii_parse.specs.declared.walk.Progress.{Progress}
use Rattle.bsii_parse.specs.declared.walk.Under.{Under}
use Rattle.bsii_parse.specs.declared.walk.ReadStep.{ReadStep}
use Rattle.bsii_parse.specs.declared.walk.ReadStep.TheVariants.{Prototype as WentPrototype, Block as WentBlock, End}
use Rattle.bsii_parse.specs.declared.walk.Totals.{Totals}
use Rattle.bsii_parse.proofs.Along.{defs_from, Along, along_start, along_none, along_prototype, along_block, along_all, along_refused}
use Rattle.bsii_parse.proofs.Passed.{entry_of, past_prototype, past_block}
use Rattle.std.specs.Prelude.{Ok, Err}

pub record Comparing (version : ℕ) (s : List ℕ) (start : ℕ) (t₀ i : List ℕ) (w : ℕ) (p : Progress) (t : List ℕ) (agreed : ℕ) : Type 0 where
  pub along : Along version s start t₀ p t
  pub agrees : agreed ≡ agreeing w (index_at start along.so) i
  pub number : p.blocks ≡ length (index_at start along.so)

pub comparing_start : {version : ℕ} (s : List ℕ) (start : ℕ) (t i : List ℕ) (w : ℕ) → start ≤ length s
    → Comparing version s start t i w (record { at = start; rows = 0; blocks = 0; prototypes = 0 }) t 0
unfolding agreeing index_from placed
comparing_start {version} s start t i w h =
    let e = along_none version s start t h in
    record { along = along_start s start t h; agrees = ap (λ l. agreeing w (index_at start l) i) (sym e); number = ap (λ l. length (index_at start l)) (sym e) }

module _ {version : ℕ} {s : List ℕ} {start : ℕ} {t₀ i : List ℕ} {w : ℕ} {p : Progress} {t : List ℕ} {agreed : ℕ} (c : Comparing version s start t₀ i w p t agreed) where
  pub comparing_few : length s ≤ length_limit → p.blocks ≤ length_limit
  comparing_few h = omega (arith, c.along.counted, c.along.inside)

  module _ {r : ReadStep} {t' : List ℕ} (k : Stepped version s p t false (Ok r) t') where
    pub comparing_meets : StepMeets version s p t (defs_from start c.along.so) (Ok r) t'
    comparing_meets = k.steps (defs_from start c.along.so) c.along.kept tt

    pub comparing_prototype : {q : Progress} → r ≡ WentPrototype q → Comparing version s start t₀ i w q t' agreed
    comparing_prototype z =
        let f = along_prototype c.along comparing_meets z in
        let x = past_prototype c.along f z in
        record { along = f.along; agrees = c.agrees ∙ ap (λ l. agreeing w l i) (sym x.0); number = x.1 ∙ c.number ∙ ap length (sym x.0) }

    pub comparing_block : {q : Progress} {u : Under} {e : IndexRecord} {n : ℕ} → r ≡ WentBlock q u → e ≡ entry_of p.at q.at u
        → Agrees i w agreed p.blocks e n → Comparing version s start t₀ i w q t' n
    comparing_block {q} {e = e} z y g =
        let f = along_block c.along comparing_meets z in
        let x = past_block c.along f z in
        let l = index_at start c.along.so in
        let more : index_at start f.along.so ≡ l ++ (record_is e ∷ []) = x.0 ∙ ap (λ b. l ++ (record_is b ∷ [])) (sym y) in
        let n : q.blocks ≡ length (l ++ (record_is e ∷ [])) = x.1 ∙ rw length-append (omega (arith, c.number)) in
        record { along = f.along; agrees = g.next l c.agrees c.number ∙ ap (λ b. agreeing w b i) (sym more); number = n ∙ ap length (sym more) }

    pub comparing_end : {n : ℕ} → r ≡ End n
        → Compares version s start t₀ i w (compared_as (record { version = version; rows = p.rows; blocks = p.blocks; prototypes = p.prototypes; next = n }) agreed) t'
    comparing_end {n} z =
        let x = along_all c.along comparing_meets z in
        subst (λ k. Compares version s start t₀ i w (compared_as (totals n p.blocks p.prototypes) k) t') (sym c.agrees)
        (subst (λ k. Compares version s start t₀ i w (compared_as (totals n k p.prototypes) here) t') (sym c.along.blocks)
        (subst (λ k. Compares version s start t₀ i w (compared_as (totals n (block_count c.along.so) k) here) t') (sym c.along.prototypes)
        (walked (record { records = c.along.so; end = x.end }) x.all x.kept x.size)))
      where
        totals : ℕ → ℕ → ℕ → Totals
        totals n b d = record { version = version; rows = p.rows; blocks = b; prototypes = d; next = n }

        here : ℕ
        here = agreeing w (index_at start c.along.so) i

  pub comparing_stop : {f : Refusal} {t' : List ℕ} → Stepped version s p t false (Err f) t' → Compares version s start t₀ i w (Err f) t'
  comparing_stop k = let x = along_refused c.along (k.steps (defs_from start c.along.so) c.along.kept tt) in stopped x.0 x.1
