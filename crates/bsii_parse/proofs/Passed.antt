-- A record that the walk has passed, as a record of the index: a prototype gives none, a block gives the one that entry_of makes.
use mathlib.Core.Path.{◌≡◌, refl, sym, ap, ◌∙◌}
use Prim.Native.Nat.{ℕ, ◌+◌, ◌-◌, ◌≤◌, ◌<◌}
use native.Mathlib.Omega.{arith}
use mathlib.Core.Option.{some}
use mathlib.Core.List.{List, [], ◌∷◌, ◌++◌}
use lib.ListN.{length}
use Rattle.bsii_format.specs.Prototypes.{Prototype}
use Rattle.bsii_format.specs.Blocks.{DataBlock}
use Rattle.bsii_format.specs.File.{Record, prototype, block, record_bytes}
use Rattle.bsii_format.specs.Calls.{Placed}
use Rattle.bsii_derived.specs.Index as index
use Rattle.bsii_derived.specs.Index.{index_record, in_force}
use Rattle.bsii_derived.proofs.Walk.{index_prototype, index_block}
use Rattle.bsii_parse.specs.Walks.{block_count, Goes, behind_prototype, behind_block, StepMeets, index_at}
use Rattle.bsii_parse.specs.declared.walk.Progress.{Progress}
use Rattle.bsii_parse.specs.declared.walk.Under.{Under}
use Rattle.bsii_parse.specs.declared.walk.ReadStep.{ReadStep}
use Rattle.bsii_parse.specs.declared.walk.ReadStep.TheVariants.{Prototype as WentPrototype, Block as WentBlock}
use Rattle.bsii_parse.proofs.Along.{defs_from, Along, Further, along_prototype, along_block}
use Rattle.bsii_index_record.specs.Records.{record_is}
use Rattle.bsii_index_record.specs.declared.IndexRecord.{IndexRecord}
use Rattle.std.specs.Prelude.{Ok}

abbrev pub entry_of : ℕ → ℕ → Under → IndexRecord
entry_of at next u = record { offset = at; size = next - at; prototype = u.offset; fields = u.fields }

-- a step over a block is one over a block, with the definition in force
record OverBlock (env : List (Placed Prototype)) (i : Record) (u : Under) : Type 0 where
  b : DataBlock
  by : Placed Prototype
  is : i ≡ block b
  found : in_force b.prototype_id env ≡ some by
  under : record { offset = by.offset; fields = length by.it.fields } ≡ u

over_block_law : {env : List (Placed Prototype)} {p q : Progress} {i : Record} {r : ReadStep} {u : Under} → Goes env q i r → r ≡ WentBlock p u → OverBlock env i u
over_block_law behind_prototype z = cc
over_block_law {u = u} (behind_block {b = b} by e) z =
    let x : record { offset = by.offset; fields = length by.it.fields } ≡ u = cc in
    record { b = b; by = by; is = refl; found = e; under = x }

over_prototype_law : {env : List (Placed Prototype)} {p q : Progress} {i : Record} {r : ReadStep} → Goes env q i r → r ≡ WentPrototype p → (x : Prototype) × (i ≡ prototype x)
over_prototype_law (behind_prototype {p = p}) z = (p, refl)
over_prototype_law (behind_block by e) z = cc

module _ {version : ℕ} {s : List ℕ} {start : ℕ} {t₀ : List ℕ} {p : Progress} {t : List ℕ} (a : Along version s start t₀ p t)
    {r : ReadStep} {q : Progress} {t' : List ℕ} (f : Further version s start t₀ p a.so r q t') where
  pub past_prototype : r ≡ WentPrototype q → (index_at start f.along.so ≡ index_at start a.so) × (q.blocks ≡ p.blocks)
  unfolding block_count
  past_prototype z =
      let x = over_prototype_law f.goes z in (
        ap (index_at start) (f.so_far ∙ ap (λ k. a.so ++ (k ∷ [])) x.1) ∙ index_prototype start a.so x.0 [],
        f.counts ∙ ap (λ k. p.blocks + block_count (k ∷ [])) x.1 ∙ omega arith,
      )

  pub past_block : {u : Under} → r ≡ WentBlock q u
      → (index_at start f.along.so ≡ index_at start a.so ++ (record_is (entry_of p.at q.at u) ∷ [])) × (q.blocks ≡ p.blocks + 1)
  unfolding block_count index_record
  past_block {u} z =
      let x = over_block_law f.goes z in
      let n : length (record_bytes (block x.b)) ≡ q.at - p.at = let l = f.long ∙ ap (λ k. p.at + length (record_bytes k)) x.is in omega (arith, l) in (
        ap (index_at start) (f.so_far ∙ ap (λ k. a.so ++ (k ∷ [])) x.is) ∙ index_block start a.so x.b [] x.found
            ∙ ap (λ k. index_at start a.so ++ (made k (length (record_bytes (block x.b))) (under_of_law x) ∷ [])) (sym a.place)
            ∙ ap (λ k. index_at start a.so ++ (made p.at k (under_of_law x) ∷ [])) n ∙ ap (λ k. index_at start a.so ++ (made p.at (q.at - p.at) k ∷ [])) x.under,
        f.counts ∙ ap (λ k. p.blocks + block_count (k ∷ [])) x.is,
      )
    where
      made : ℕ → ℕ → Under → index.IndexRecord
      made o n v = record { offset = o; size = n; prototype = v.offset; fields = v.fields }

      under_of_law : {env : List (Placed Prototype)} {i : Record} {v : Under} → OverBlock env i v → Under
      under_of_law x = record { offset = x.by.offset; fields = length x.by.it.fields }

-- ---- a step moves on, so the loop ends

module _ {version : ℕ} {s : List ℕ} {start : ℕ} {t₀ : List ℕ} {p : Progress} {t : List ℕ} (a : Along version s start t₀ p t)
    {r : ReadStep} {t' : List ℕ} (m : StepMeets version s p t (defs_from start a.so) (Ok r) t') {q : Progress} where
  pub prototype_less : r ≡ WentPrototype q → length s - q.at < length s - p.at
  prototype_less z = let f = along_prototype a m z in omega (arith, f.on, f.along.inside)

  pub block_less : {u : Under} → r ≡ WentBlock q u → length s - q.at < length s - p.at
  block_less z = let f = along_block a m z in omega (arith, f.on, f.along.inside)

  pub block_later : {u : Under} → r ≡ WentBlock q u → p.at ≤ q.at
  block_later z = let f = along_block a m z in omega (arith, f.on)
