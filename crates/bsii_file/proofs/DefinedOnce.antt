-- The table has a row for each id, so there are as many rows as prototypes if and only if no id is defined twice.
use mathlib.Core.Path.{◌≡◌, refl, sym, ap, ◌∙◌}
use Prim.Native.Nat.{ℕ}
use native.Mathlib.Omega.{arith}
use mathlib.Core.Bool.{Bool, true, false}
use mathlib.Core.List.{List, []}
use lib.ListN.{length}
use lib.Dec.{eqb}
use borrow.Author.Tests.{eqb-true, eqb-false}
use Rattle.std.specs.Int.{from_bool}
use Rattle.bsii_format.specs.Replies.{gives, refuses}
use Rattle.bsii_format.specs.Prototypes.{Prototype}
use Rattle.bsii_format.specs.File.{record_bytes, define_all, distinct_ids, prototypes_of}
use Rattle.bsii_format.specs.Calls.{placed_records, of_file}
use Rattle.bsii_string.specs.Answers.{fault_is}
use Rattle.bsii_string.specs.declared.answers.Refusal.{Refusal}
use Rattle.bsii_derived.specs.IndexCalls.{once, defines_once_call}
use Rattle.bsii_derived.proofs.Once.{once_counts, counts_once}
use Rattle.bsii_parse.specs.Walks.{totals_of, read, unread, ReadTree}
use Rattle.bsii_parse.specs.declared.walk.Totals.{Totals}
use Rattle.bsii_parse.proofs.Records.{defined_length}
use Rattle.bsii_parse.proofs.Tables.{bare_all}
use Rattle.bsii_file.specs.Answers.{number_is}
use Rattle.std.specs.Prelude.{Ok, Err, Result as Outcome}

once_is : (env : List Prototype) (b : Bool) → once env ≡ b → (distinct_ids env ≡ length env → b ≡ true) × ((distinct_ids env ≡ length env → ⊥) → b ≡ false)
once_is env true e = ((λ h. refl), (λ h. absurd (h (once_counts env e))))
once_is env false e = ((λ h. sym e ∙ counts_once env h), (λ h. refl))

module _ {s t : List ℕ} where
  once_of : {r : Outcome Totals Refusal} {t' : List ℕ} → ReadTree s t r t' → {a : Totals} → r ≡ Ok a
      → (a.prototypes ≡ a.rows → number_is (Ok 1) ≡ defines_once_call (length t) s) × ((a.prototypes ≡ a.rows → ⊥) → number_is (Ok 0) ≡ defines_once_call (length t) s)
  unfolding defines_once_call of_file prototypes_of placed_records
  once_of (read f {rows = rows} {n = n} e k l) {a} z =
      let same : totals_of f.header.value rows f.records n ≡ a = cc in
      let env = define_all f.records [] in
      let ids : a.rows ≡ distinct_ids env =
      sym (ap (λ (a : Totals). a.rows) same) ∙ k.holds.count ∙ ap distinct_ids (bare_all (λ r. length (record_bytes r)) (length f.header.raw) f.records []) in
      let all : a.prototypes ≡ length env = sym (ap (λ (a : Totals). a.prototypes) same) ∙ (let x = defined_length f.records [] in omega (arith, x)) in
      let o = once_is env (once env) refl in (
        (λ h. rw (e, o.0 (sym ids ∙ sym h ∙ all)) refl),
        (λ h. rw (e, o.1 (λ x. h (all ∙ sym x ∙ sym ids))) refl),
      )
  once_of (unread e l) z = cc

  pub once_answer : {a : Totals} {t' : List ℕ} → ReadTree s t (Ok a) t' → {n : ℕ} → n ≡ from_bool (eqb a.prototypes a.rows) → number_is (Ok n) ≡ defines_once_call (length t) s
  once_answer {a} r z = ap gives z ∙ go (eqb a.prototypes a.rows) refl
    where
      go : (b : Bool) → eqb a.prototypes a.rows ≡ b → number_is (Ok (from_bool b)) ≡ defines_once_call (length t) s
      go true e = (once_of r refl).0 (eqb-true _ _ e)
      go false e = (once_of r refl).1 (eqb-false _ _ e)

  refused_of : {r : Outcome Totals Refusal} {t' : List ℕ} → ReadTree s t r t' → {f : Refusal} → r ≡ Err f → number_is (Err f) ≡ defines_once_call (length t) s
  unfolding defines_once_call of_file
  refused_of (read f e k l) z = cc
  refused_of (unread {f = x} e l) {f} z = let y : f ≡ x = cc in rw e (ap (λ g. refuses (fault_is g)) y)

  pub once_refused : {f : Refusal} {t' : List ℕ} → ReadTree s t (Err f) t' → number_is (Err f) ≡ defines_once_call (length t) s
  once_refused r = refused_of r refl
