-- Records that were accepted: the end record, or a record and more of them.
use mathlib.Core.Path.{◌≡◌, refl, sym, ap, ap₂, ◌∙◌, subst}
use Prim.Native.Nat.{ℕ, ◌+◌, ◌≤◌, ◌<◌}
use native.Mathlib.Omega.{arith}
use mathlib.Core.Bool.{Bool, true, false}
use mathlib.Core.List.{List, [], ◌∷◌}
use lib.ListN.{length, drop, length-append}
use Rattle.bsii_format.specs.Reader.{Result, ok, fault}
use Rattle.bsii_format.specs.Prototypes.{Prototype}
use Rattle.bsii_format.specs.File.{Record, prototype, block, Step, end, more, record_parser, record_bytes, define, has_room, Records}
use Rattle.bsii_format.proofs.Readers.{fault≢ok, ok_val, ok_at, ok_rest}
use Rattle.bsii_format.proofs.Positions.{moved}
use Rattle.bsii_format.proofs.Records.{record_good, head_takes, GoodStep, step_bytes, record_exact}
use Rattle.bsii_parse.specs.Walks.{behind, records_at}
use Rattle.bsii_parse.proofs.Records.{records_fault, records_end, records_full, records_more}

-- a record from `at` to n
pub record Passed (version : ℕ) (env : List Prototype) (s : List ℕ) (at n : ℕ) (i : Record) : Type 0 where
  pub reads : record_parser version env at (drop at s) ≡ ok (more i) n (drop n s)
  pub place : n ≡ at + length (record_bytes i)
  pub later : at < n
  pub inside : at ≤ length s → n ≤ length s

pub data Accepted (version rooms : ℕ) (env : List Prototype) (at : ℕ) (s : List ℕ) (n : ℕ) (e : List ℕ) : List Record → Type 0 where
  the_end : {l : List ℕ} {m : ℕ} {r : List ℕ} → record_parser version env at (drop at s) ≡ ok (end l) m r → Accepted version rooms env at s n e []
  a_record : (i : Record) (m : ℕ) (l : List Record) → Passed version env s at m i → records_at version rooms (define i env) m s ≡ ok (record { records = l; end = e }) n (drop n s) → Accepted version rooms env at s n e (i ∷ l)

module _ {version : ℕ} (rooms : ℕ) (env : List Prototype) (at : ℕ) (s : List ℕ) (n : ℕ) (e : List ℕ) where
  passed : (i : Record) (m : ℕ) (r : List ℕ) → record_parser version env at (drop at s) ≡ ok (more i) m r → Passed version env s at m i
  unfolding step_bytes record_bytes
  passed i m r h =
      let w = moved (record_exact version env) s at h in
      let g = record_good env at (drop at s) (more i) m r h in
      record { reads = h ∙ ap (ok (more i) m) w.rest; place = g.place; later = omega (arith, g.place, takes i g.good); inside = w.inside }
    where
      takes : (i : Record) → GoodStep version env (more i) → 1 ≤ length (record_bytes i)
      takes (prototype p) g = rw length-append (omega (arith, head_takes g.head))
      takes (block b) g = rw length-append (omega (arith, head_takes g.head))

  pub accepted : (rest : List Record) → records_at version rooms env at s ≡ ok (record { records = rest; end = e }) n (drop n s)
      → Accepted version rooms env at s n e rest
  unfolding behind
  accepted rest h = go (record_parser version env at (drop at s)) refl
    where
      tail : (i : Record) (m : ℕ) → Passed version env s at m i → (q : Result Records) → records_at version rooms (define i env) m s ≡ q
          → behind (i ∷ []) q ≡ ok (record { records = rest; end = e }) n (drop n s) → Accepted version rooms env at s n e rest
      tail i m p (ok q k r) d b =
          let v = ok_val b in
          let c : i ∷ q.records ≡ rest = ap (λ (z : Records). z.records) v in
          let f : q.end ≡ e = ap (λ (z : Records). z.end) v in
          subst (Accepted version rooms env at s n e) c
          (a_record i m q.records p
          (d ∙ ap (λ z. ok (record { records = q.records; end = z }) k r) f ∙ ap₂ (λ (j : ℕ) (z : List ℕ). ok (record { records = q.records; end = e }) j z) (ok_at b) (ok_rest b)))
      tail i m p (fault f) d b = fault≢ok b

      room : (i : Record) (m : ℕ) → Passed version env s at m i → (b : Bool) → has_room rooms env i ≡ b → Accepted version rooms env at s n e rest
      room i m p true b = tail i m p (records_at version rooms (define i env) m s) refl (sym (records_more version rooms env at s p.reads b) ∙ h)
      room i m p false b = fault≢ok (sym (records_full version rooms env at s p.reads b) ∙ h)

      go : (q : Result Step) → record_parser version env at (drop at s) ≡ q → Accepted version rooms env at s n e rest
      go (fault f) q = fault≢ok (sym (records_fault version rooms env at s q) ∙ h)
      go (ok (end l) m r) q =
          let c : [] ≡ rest = ap (λ (z : Records). z.records) (ok_val (sym (records_end version rooms env at s q) ∙ h)) in
          subst (Accepted version rooms env at s n e) c (the_end q)
      go (ok (more i) m r) q = let p = passed i m r q in room i m p (has_room rooms env i) refl
