-- One step of a walk over the records of a file.
use mathlib.Core.Path.{◌≡◌, refl, sym, ap, ◌∙◌}
use Prim.Native.Nat.{ℕ, zero, suc, ◌+◌, ◌≤◌}
use native.Mathlib.Omega.{arith}
use mathlib.Core.Bool.{Bool, true, false, cond}
use mathlib.Core.List.{List, [], ◌∷◌, ◌++◌, append_assoc}
use lib.ListN.{length, drop}
use Rattle.bsii_format.specs.Replies.{Fault, table_full}
use Rattle.bsii_format.specs.Reader.{Result, ok, fault, fault_at, Reader, after, ◌>>=◌, success, exhausted, ◌<$>◌}
use Rattle.bsii_format.specs.Prototypes.{Prototype}
use Rattle.bsii_format.specs.File.{Record, prototype, block, Step, end, more, record_parser, define, has_room, Records, cons_record, records_then, records_from, define_all}
use Rattle.bsii_format.proofs.Readers.{shorter}
use Rattle.bsii_format.proofs.Records.{record_exact, record_empty}
use Rattle.bsii_parse.specs.Walks.{block_count, prototype_count, behind, records_at}

-- ---- the fuel does not show

cond_same : {A : Type 0} (b : Bool) (R R' S : Reader A) (at : ℕ) (s : List ℕ) → R at s ≡ R' at s → cond b R S at s ≡ cond b R' S at s
cond_same true R R' S at s e = e
cond_same false R R' S at s e = refl

map_same : {A B : Type 0} (f : A → B) (R R' : Reader A) (at : ℕ) (s : List ℕ) → R at s ≡ R' at s → (f <$> R) at s ≡ (f <$> R') at s
unfolding ◌<$>◌ ◌>>=◌
map_same f R R' at s e = ap (λ q. after q (λ a. success (f a))) e

-- behind a record only what the rest is read as counts
then_same : (rooms : ℕ) (env : List Prototype) (start : ℕ) (K K' : List Prototype → Reader Records) (q : Result Step)
    → ((i : Record) (at : ℕ) (s : List ℕ) → q ≡ ok (more i) at s → K (define i env) at s ≡ K' (define i env) at s)
    → after q (records_then rooms env start K) ≡ after q (records_then rooms env start K')
unfolding after records_then
then_same rooms env start K K' (ok (end l) at s) h = refl
then_same rooms env start K K' (ok (more i) at s) h =
    cond_same (has_room rooms env i) (cons_record i <$> K (define i env)) (cons_record i <$> K' (define i env)) _ at s
    (map_same (cons_record i) (K (define i env)) (K' (define i env)) at s (h i at s refl))
then_same rooms env start K K' (fault f) h = refl

pub records_fuel : (version rooms n m : ℕ) (env : List Prototype) (at : ℕ) (s : List ℕ) → length s ≤ n → length s ≤ m → records_from version rooms n env at s ≡ records_from version rooms m env at s
unfolding records_from exhausted after
records_fuel version rooms zero zero env at s h k = refl
records_fuel version rooms zero (suc m) env at [] h k = rw (record_empty version env at)
records_fuel version rooms zero (suc m) env at (x ∷ s) h k = absurd (omega arith)
records_fuel version rooms (suc n) zero env at [] h k = rw (record_empty version env at)
records_fuel version rooms (suc n) zero env at (x ∷ s) h k = absurd (omega arith)
records_fuel version rooms (suc n) (suc m) env at s h k =
    then_same rooms env at (λ e. records_from version rooms n e) (λ e. records_from version rooms m e) (record_parser version env at s)
    (λ i at' r e. records_fuel version rooms n m (define i env) at' r (less n h i at' r e) (less m k i at' r e))
  where
    less : (n : ℕ) → length s ≤ suc n → (i : Record) (at' : ℕ) (r : List ℕ) → record_parser version env at s ≡ ok (more i) at' r → length r ≤ n
    less n h i at' r e = let z = shorter (record_exact version env) (record_empty version env 0) at s (more i) at' r e in omega arith

-- ---- the records from a position on, and one step of them

module _ (version rooms : ℕ) (env : List Prototype) (at : ℕ) (s : List ℕ) where
  unfolded : records_at version rooms env at s
      ≡ after (record_parser version env at (drop at s)) (records_then rooms env at (λ e. records_from version rooms (length (drop at s)) e))
  unfolding records_from
  unfolded = records_fuel version rooms (length (drop at s)) (suc (length (drop at s))) env at (drop at s) (omega arith) (omega arith)

  pub records_fault : {f : Fault} → record_parser version env at (drop at s) ≡ fault f → records_at version rooms env at s ≡ fault f
  unfolding after
  records_fault e = unfolded ∙ rw e

  pub records_end : {l : List ℕ} {n : ℕ} {r : List ℕ} → record_parser version env at (drop at s) ≡ ok (end l) n r → records_at version rooms env at s ≡ ok (record { records = []; end = l }) n r
  unfolding after records_then success
  records_end e = unfolded ∙ rw e

  pub records_full : {i : Record} {n : ℕ} {r : List ℕ} → record_parser version env at (drop at s) ≡ ok (more i) n r → has_room rooms env i ≡ false → records_at version rooms env at s ≡ fault_at table_full at
  unfolding after records_then
  records_full e h = unfolded ∙ rw (e, h)

  pub records_more : {i : Record} {n : ℕ} → record_parser version env at (drop at s) ≡ ok (more i) n (drop n s) → has_room rooms env i ≡ true
      → records_at version rooms env at s ≡ behind (i ∷ []) (records_at version rooms (define i env) n s)
  unfolding after records_then ◌<$>◌ ◌>>=◌
  records_more {i} {n} e h =
      let z = shorter (record_exact version env) (record_empty version env 0) at (drop at s) (more i) n (drop n s) e in
      unfolded ∙ rw (e, h)
      (ap (λ q. after q (λ a. success (cons_record i a))) (records_fuel version rooms (length (drop at s)) (length (drop n s)) (define i env) n (drop n s) (omega arith) (omega arith))
      ∙ put (records_at version rooms (define i env) n s))
    where
      put : (q : Result Records) → after q (λ a. success (cons_record i a)) ≡ behind (i ∷ []) q
      put (ok q at r) = unfold after success cons_record behind in refl
      put (fault f) = unfold after behind in refl

-- ---- what lies behind

pub behind_behind : (a b : List Record) (q : Result Records) → behind a (behind b q) ≡ behind (a ++ b) q
unfolding behind
behind_behind a b (ok q at r) = ap (λ z. ok (record { records = z; end = q.end }) at r) (sym (append_assoc a b q.records))
behind_behind a b (fault f) = refl

pub define_all_append : (a b : List Record) (env : List Prototype) → define_all (a ++ b) env ≡ define_all b (define_all a env)
unfolding define_all
define_all_append [] b env = refl
define_all_append (i ∷ a) b env = define_all_append a b (define i env)

pub block_count_append : (a b : List Record) → block_count (a ++ b) ≡ block_count a + block_count b
unfolding block_count
block_count_append [] b = omega arith
block_count_append (prototype p ∷ a) b = block_count_append a b
block_count_append (block x ∷ a) b = omega (arith, block_count_append a b)

pub prototype_count_append : (a b : List Record) → prototype_count (a ++ b) ≡ prototype_count a + prototype_count b
unfolding prototype_count
prototype_count_append [] b = omega arith
prototype_count_append (prototype p ∷ a) b = omega (arith, prototype_count_append a b)
prototype_count_append (block x ∷ a) b = prototype_count_append a b

-- each prototype is a definition
pub defined_length : (l : List Record) (env : List Prototype) → length (define_all l env) ≡ prototype_count l + length env
unfolding define_all define prototype_count
defined_length [] env = omega arith
defined_length (prototype p ∷ l) env = defined_length l (p ∷ env) ∙ omega arith
defined_length (block b ∷ l) env = defined_length l env
