-- "Defines no prototype id twice" holds along the whole list of insertions, since (ii) takes a new id and (i) and (iii) define nothing; and so a
-- definition in force is the last one of its id.
use mathlib.Core.Path.{◌≡◌, refl, sym, ap, ◌∙◌, subst}
use Prim.Native.Nat.{ℕ, zero, suc}
use mathlib.Core.Bool.{Bool, true, false, ◌||◌, not, cond}
use mathlib.Core.Option.{none, some}
use mathlib.Core.List.{List, [], ◌∷◌}
use lib.ListN.{take}
use lib.Dec.{T, eqb, eqb→eq, eqb_refl}
use Rattle.bsii_format.specs.Reader.{Consumed}
use Rattle.bsii_format.specs.Prototypes.{ValuePrototype, Prototype}
use Rattle.bsii_format.specs.Blocks.{DataValue, DataBlock, find_by, get_prototype}
use Rattle.bsii_format.specs.File.{Record, prototype, block, define, define_all, prototypes_of}
use Rattle.bsii_widening.specs.Marks.{old, inserted, unmark, map_mark, marked_prototype, marked_block, MarkedRecords, new_records}
use Rattle.bsii_widening.specs.Insertions.{insert_at, insert_field, Insertion, a_field, a_prototype, a_block, insert, insert_all, Allowed, AllAllowed, defines_id, NoIdTwice}
use Rattle.bsii_widening.proofs.Marks.{new_insert_prototype, new_insert_block}
use Rattle.bsii_widening.proofs.Environments.{none≢some, this_id}

pub nor_left : (a b : Bool) → T (not (a || b)) → T (not a)
nor_left true b h = absurd h
nor_left false b h = tt

nor_right : (a b : Bool) → T (not (a || b)) → T (not b)
nor_right true b h = absurd h
nor_right false b h = h

nor : (a b : Bool) → T (not a) → T (not b) → T (not (a || b))
nor true b h k = absurd h
nor false b h k = k

pub not_both : (y : Bool) → T y → T (not y) → ⊥
not_both true i j = j
not_both false i j = i

not_sym : (a b : ℕ) → T (not (eqb a b)) → T (not (eqb b a))
not_sym a b h = go (eqb b a) (λ t. subst (λ z. T (not (eqb z b))) (sym (eqb→eq b a t)) h)
  where
    go : (x : Bool) → (T x → T (not (eqb b b))) → T (not x)
    go true f = absurd (not_both (eqb b b) (eqb_refl b) (f tt))
    go false f = tt

-- ---- a definition in force is the last one

pub known_stays : (n : ℕ) (l : List Record) (env : List Prototype) {q : Prototype} → get_prototype n env ≡ some q → T (not (defines_id n l)) → get_prototype n (define_all l env) ≡ some q
unfolding define_all define defines_id find_by
known_stays n [] env e h = e
known_stays n (block b ∷ l) env e h = known_stays n l env e h
known_stays n (prototype p ∷ l) env {q} e h =
    known_stays n l (p ∷ env) (go (eqb n p.id) (nor_left (eqb n p.id) (defines_id n l) h)) (nor_right (eqb n p.id) (defines_id n l) h)
  where
    go : (b : Bool) → T (not b) → cond b (some p) (get_prototype n env) ≡ some q
    go true k = absurd k
    go false k = e

-- env and l share no id
abbrev pub Apart : List Prototype → List Record → Type 0
Apart env l = (m : ℕ) (q : Prototype) → get_prototype m env ≡ some q → T (not (defines_id m l))

pub apart_prototype : (env : List Prototype) (p : Prototype) (l : List Record) → Apart env (prototype p ∷ l) → T (not (defines_id p.id l)) → Apart (p ∷ env) l
unfolding defines_id find_by
apart_prototype env p l a o m q z = go (eqb m p.id) refl z
  where
    go : (b : Bool) → eqb m p.id ≡ b → cond b (some p) (get_prototype m env) ≡ some q → T (not (defines_id m l))
    go true y z = subst (λ x. T (not (defines_id x l))) (sym (this_id m p.id y)) o
    go false y z = nor_right (eqb m p.id) (defines_id m l) (a m q z)

known_later : (n : ℕ) (k : ℕ) (l : List Record) (env : List Prototype) {q : Prototype} → Apart env l → NoIdTwice l → get_prototype n (define_all (take k l) env) ≡ some q
    → get_prototype n (define_all l env) ≡ some q
unfolding define_all define defines_id
known_later n zero [] env a o e = e
known_later n zero (i ∷ l) env {q} a o e = known_stays n (i ∷ l) env e (a n q e)
known_later n (suc k) [] env a o e = e
known_later n (suc k) (block b ∷ l) env a o e = known_later n k l env a o e
known_later n (suc k) (prototype p ∷ l) env a o e = known_later n k l (p ∷ env) (apart_prototype env p l a o.0) o.1 e

pub last_is_in_force : (n k : ℕ) (l : List Record) → NoIdTwice l → {q : Prototype} → get_prototype n (prototypes_of (take k l)) ≡ some q → get_prototype n (prototypes_of l) ≡ some q
unfolding prototypes_of find_by
last_is_in_force n k l o e = known_later n k l [] (λ m q z. none≢some z) o e

-- ---- an id that is not known is not defined

known_some : (n : ℕ) (l : List Record) (env : List Prototype) {q : Prototype} → get_prototype n env ≡ some q → get_prototype n (define_all l env) ≡ none → ⊥
unfolding define_all define find_by
known_some n [] env e h = none≢some (sym h ∙ e)
known_some n (block b ∷ l) env e h = known_some n l env e h
known_some n (prototype p ∷ l) env {q} e h = let x = go (eqb n p.id) in known_some n l (p ∷ env) x.1 h
  where
    go : (b : Bool) → (r : Prototype) × (cond b (some p) (get_prototype n env) ≡ some r)
    go true = (p, refl)
    go false = (q, e)

unknown_absent : (n : ℕ) (l : List Record) (env : List Prototype) → get_prototype n (define_all l env) ≡ none → T (not (defines_id n l))
unfolding define_all define defines_id find_by
unknown_absent n [] env e = tt
unknown_absent n (block b ∷ l) env e = unknown_absent n l env e
unknown_absent n (prototype p ∷ l) env e = nor (eqb n p.id) (defines_id n l) (go (eqb n p.id) refl) (unknown_absent n l (p ∷ env) e)
  where
    go : (b : Bool) → eqb n p.id ≡ b → T (not b)
    go true z = known_some n l (p ∷ env) {q = p} (ap (λ b. cond b (some p) (get_prototype n env)) z) e
    go false z = tt

-- ---- each insertion keeps it

defines_field : (x n p : ℕ) (d : Consumed ValuePrototype) (v : ℕ → DataValue) (k : ℕ) (M : MarkedRecords) → defines_id x (new_records (insert_field n p d v k M)) ≡ defines_id x (new_records M)
unfolding new_records insert_field map_mark unmark defines_id
defines_field x n p d v k [] = refl
defines_field x n p d v k (old (marked_prototype m) ∷ l) = ap (λ z. eqb x m.id || z) (defines_field x n p d v k l)
defines_field x n p d v k (inserted (marked_prototype m) ∷ l) = ap (λ z. eqb x m.id || z) (defines_field x n p d v k l)
defines_field x n p d v k (old (marked_block b) ∷ l) = defines_field x n p d v (suc k) l
defines_field x n p d v k (inserted (marked_block b) ∷ l) = defines_field x n p d v (suc k) l

once_field : (n p : ℕ) (d : Consumed ValuePrototype) (v : ℕ → DataValue) (k : ℕ) (M : MarkedRecords) → NoIdTwice (new_records M) → NoIdTwice (new_records (insert_field n p d v k M))
unfolding new_records insert_field map_mark unmark
once_field n p d v k [] o = tt
once_field n p d v k (old (marked_prototype m) ∷ l) o = (subst (λ z. T (not z)) (sym (defines_field m.id n p d v k l)) o.0, once_field n p d v k l o.1)
once_field n p d v k (inserted (marked_prototype m) ∷ l) o = (subst (λ z. T (not z)) (sym (defines_field m.id n p d v k l)) o.0, once_field n p d v k l o.1)
once_field n p d v k (old (marked_block b) ∷ l) o = once_field n p d v (suc k) l o
once_field n p d v k (inserted (marked_block b) ∷ l) o = once_field n p d v (suc k) l o

-- what follows is about the plain lists of records, into which (ii) and (iii) insert
defines_prototype : (x k : ℕ) (p : Prototype) (l : List Record) → T (not (eqb x p.id)) → T (not (defines_id x l)) → T (not (defines_id x (insert_at k (prototype p) l)))
unfolding insert_at defines_id
defines_prototype x zero p l d h = nor (eqb x p.id) (defines_id x l) d h
defines_prototype x (suc k) p [] d h = nor (eqb x p.id) false d tt
defines_prototype x (suc k) p (prototype m ∷ l) d h =
    nor (eqb x m.id) (defines_id x (insert_at k (prototype p) l)) (nor_left (eqb x m.id) (defines_id x l) h)
    (defines_prototype x k p l d (nor_right (eqb x m.id) (defines_id x l) h))
defines_prototype x (suc k) p (block b ∷ l) d h = defines_prototype x k p l d h

once_prototype : (k : ℕ) (p : Prototype) (l : List Record) → NoIdTwice l → T (not (defines_id p.id l)) → NoIdTwice (insert_at k (prototype p) l)
unfolding insert_at defines_id
once_prototype zero p l o h = (h, o)
once_prototype (suc k) p [] o h = (tt, tt)
once_prototype (suc k) p (prototype m ∷ l) o h = (
  defines_prototype m.id k p l (not_sym p.id m.id (nor_left (eqb p.id m.id) (defines_id p.id l) h)) o.0,
  once_prototype k p l o.1 (nor_right (eqb p.id m.id) (defines_id p.id l) h),
)
once_prototype (suc k) p (block b ∷ l) o h = once_prototype k p l o h

defines_block : (x k : ℕ) (b : DataBlock) (l : List Record) → defines_id x (insert_at k (block b) l) ≡ defines_id x l
unfolding insert_at defines_id
defines_block x zero b l = refl
defines_block x (suc k) b [] = refl
defines_block x (suc k) b (prototype m ∷ l) = ap (λ z. eqb x m.id || z) (defines_block x k b l)
defines_block x (suc k) b (block c ∷ l) = defines_block x k b l

once_block : (k : ℕ) (b : DataBlock) (l : List Record) → NoIdTwice l → NoIdTwice (insert_at k (block b) l)
unfolding insert_at
once_block zero b l o = o
once_block (suc k) b [] o = tt
once_block (suc k) b (prototype m ∷ l) o = (subst (λ z. T (not z)) (sym (defines_block m.id k b l)) o.0, once_block k b l o.1)
once_block (suc k) b (block c ∷ l) o = once_block k b l o

pub once_insert : (version : ℕ) (i : Insertion) (M : MarkedRecords) → Allowed version i M → NoIdTwice (new_records M) → NoIdTwice (new_records (insert i M))
unfolding insert prototypes_of
once_insert version (a_field n p d v) M a o = once_field n p d v 0 M o
once_insert version (a_prototype k p) M a o = subst NoIdTwice (sym (new_insert_prototype k p M)) (once_prototype k p (new_records M) o (unknown_absent p.id (new_records M) [] a.undefined))
once_insert version (a_block k b) M a o = subst NoIdTwice (sym (new_insert_block k b M)) (once_block k b (new_records M) o)

pub once_all : (version : ℕ) (l : List Insertion) (M : MarkedRecords) → AllAllowed version l M → NoIdTwice (new_records M) → NoIdTwice (new_records (insert_all l M))
unfolding insert_all
once_all version [] M a o = o
once_all version (i ∷ l) M a o = once_all version l (insert i M) a.1 (once_insert version i M a.0 o)
