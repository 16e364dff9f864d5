-- What the walk beside an index has found, as the check's answer.
use mathlib.Core.Path.{◌≡◌, refl, sym, ap, ◌∙◌}
use Prim.Native.Nat.{ℕ, ◌*◌, ◌≤◌}
use native.Mathlib.Omega.{arith}
use mathlib.Core.List.{List}
use lib.ListN.{length}
use Rattle.bsii_format.specs.Replies.{refuses, misfit}
use Rattle.bsii_format.specs.File.{length_limit}
use Rattle.bsii_format.specs.Calls.{of_file}
use Rattle.bsii_string.specs.Answers.{fault_is, refused_at}
use Rattle.bsii_string.specs.declared.answers.Refusal.{Refusal}
use Rattle.bsii_derived.specs.Index.{index_of, agreeing}
use Rattle.bsii_derived.specs.IndexCalls.{checked, check_index_call}
use Rattle.bsii_derived.proofs.Walk.{agreeing_few, same_all, differing}
use Rattle.bsii_parse.specs.Walks.{block_count, ComparesFile, compared, uncompared}
use Rattle.bsii_parse.specs.declared.walk.Compared.{Compared}
use Rattle.bsii_index.specs.Answers.{checked_is}
use Rattle.bsii_index.specs.Indexes.{Fitting}
use Rattle.std.specs.Prelude.{Ok, Err, Result as Outcome}
use Rattle.bsii_index.proofs.Counting.{blocks_indexed, blocks_limited}

-- ---- how far they agree, and how many there are

module _ {i : List ℕ} {w agreed blocks : ℕ} where
  pub fits_all : agreed ≡ blocks → length i ≡ agreed * (4 * w) → Fitting i w agreed blocks (Ok tt)
  unfolding checked
  fits_all h k = record { fits = λ l a b. rw (same_all w l i (sym a ∙ h ∙ b) (k ∙ ap (λ m. m * (4 * w)) (h ∙ b))) refl }

  pub fits_not : (agreed ≡ blocks → length i ≡ agreed * (4 * w) → ⊥) → Fitting i w agreed blocks (Err (refused_at misfit (agreed * (4 * w))))
  unfolding checked
  fits_not h = record {
    fits = λ l a b. rw (differing w l i (λ x y. h (a ∙ x ∙ sym b) (y ∙ ap (λ m. m * (4 * w)) (sym x ∙ sym a))), a) refl;
  }

-- ---- the answer

pub compared_size : {s t i : List ℕ} {w : ℕ} {r : Outcome Compared Refusal} {t' : List ℕ} → ComparesFile s t i w r t' → length t' ≡ length t
compared_size (compared f e k l) = l
compared_size (uncompared e l) = l

same : {a b : Compared} → ◌≡◌ {A = Outcome Compared Refusal} (Ok a) (Ok b) → a ≡ b
same z = cc

module _ {s t i : List ℕ} {w : ℕ} where
  few_of : {r : Outcome Compared Refusal} {t' : List ℕ} → ComparesFile s t i w r t' → {c : Compared} → r ≡ Ok c → c.agreed ≤ length_limit
  few_of (compared f e k l) {c} z =
      let x : agreeing w (index_of f) i ≡ c.agreed = cc in
      omega (arith, agreeing_few w (index_of f) i, blocks_limited (length t) s e, blocks_indexed (length t) s e, x)
  few_of (uncompared e l) z = cc

  pub compared_few : {c : Compared} {t' : List ℕ} → ComparesFile s t i w (Ok c) t' → c.agreed ≤ length_limit
  compared_few r = few_of r refl

  fits_of : {r : Outcome Compared Refusal} {t' : List ℕ} → ComparesFile s t i w r t' → {c : Compared} → r ≡ Ok c → {k : Outcome (Unit {0}) Refusal}
      → Fitting i w c.agreed c.totals.blocks k → checked_is k ≡ check_index_call w (length t) s i
  unfolding check_index_call of_file
  fits_of (compared f e k l) {c} z y =
      let x : c.agreed ≡ agreeing w (index_of f) i = cc in
      let b : c.totals.blocks ≡ block_count f.records = ap (λ (k : Compared). k.totals.blocks) (sym (same z)) in
      rw e (y.fits (index_of f) x (b ∙ blocks_indexed (length t) s e))
  fits_of (uncompared e l) z y = cc

  pub compared_fits : {c : Compared} {t' : List ℕ} → ComparesFile s t i w (Ok c) t' → {k : Outcome (Unit {0}) Refusal} → Fitting i w c.agreed c.totals.blocks k
      → checked_is k ≡ check_index_call w (length t) s i
  compared_fits r y = fits_of r refl y

  refused_of : {r : Outcome Compared Refusal} {t' : List ℕ} → ComparesFile s t i w r t' → {f : Refusal} → r ≡ Err f → checked_is (Err f) ≡ check_index_call w (length t) s i
  unfolding check_index_call of_file
  refused_of (compared f e k l) z = cc
  refused_of (uncompared {f = x} e l) {f} z = let y : f ≡ x = cc in rw e (ap (λ g. refuses (fault_is g)) y)

  pub compared_refused : {f : Refusal} {t' : List ℕ} → ComparesFile s t i w (Err f) t' → checked_is (Err f) ≡ check_index_call w (length t) s i
  compared_refused r = refused_of r refl
