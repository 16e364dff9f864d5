-- The definitions of a marked file, the last one first, against those of the new file and of the old one; and how an insertion changes them: a look-up
-- finds what it found, but for the one id that was inserted or widened. By induction along the records.
use mathlib.Core.Path.{◌≡◌, refl, sym, ap, ◌∙◌, subst}
use Prim.Native.Nat.{ℕ, zero, suc}
use native.Mathlib.Omega.{arith}
use mathlib.Core.Bool.{Bool, true, false, cond}
use mathlib.Core.Option
use mathlib.Core.Option.{Option, none, some}
use mathlib.Core.List.{List, [], ◌∷◌, map}
use lib.Dec.{T, eqb, eqb→eq, eqb_refl}
use Rattle.bsii_format.specs.Reader.{Consumed}
use Rattle.bsii_format.specs.Prototypes.{ValuePrototype, Prototype}
use Rattle.bsii_format.specs.Blocks.{DataValue, find_by, get_prototype}
use Rattle.bsii_format.specs.File.{define, define_all, prototypes_of}
use Rattle.bsii_widening.specs.Marks.{Mark, old, inserted, unmark, map_mark, all, MarkedPrototype, MarkedBlock, marked_prototype, marked_block, MarkedRecords, new_prototype, old_prototype, new_records, old_records}
use Rattle.bsii_widening.specs.Insertions.{insert_at, insert_if, into_prototype, insert_field}
use Rattle.bsii_widening.specs.Parts.{marked_prototypes, get_marked}
use Rattle.bsii_widening.proofs.Marks.{all_insert_if, unmark_map}

-- ---- options and look-ups

pub none≢some : {A : Type 0} {P : Type 0} {a : A} → ◌≡◌ {A = Option A} none (some a) → P
none≢some {A} {P} e = let z : ◌≡◌ {A = ℕ} 0 1 = cc in let f : ⊥ = omega arith in absurd f

pub some_inj : {A : Type 0} {a b : A} → ◌≡◌ {A = Option A} (some a) (some b) → a ≡ b
some_inj e = cc

cond_map : {A B : Type 0} (f : A → B) (b : Bool) (a : A) (o : Option A) → cond b (some (f a)) (Option.map f o) ≡ Option.map f (cond b (some a) o)
cond_map f true a o = refl
cond_map f false a o = refl

pub find_map : {A B : Type 0} (g : A → ℕ) (h : B → ℕ) (f : A → B) → ((a : A) → h (f a) ≡ g a) → (n : ℕ) (l : List A)
    → find_by h n (map f l) ≡ Option.map f (find_by g n l)
unfolding find_by
find_map g h f e n [] = refl
find_map g h f e n (a ∷ l) = rw (e a, find_map g h f e n l) (cond_map f (eqb n (g a)) a (find_by g n l))

pub map_some : {A B : Type 0} (f : A → B) (o : Option A) {b : B} → Option.map f o ≡ some b → (a : A) × (o ≡ some a) × (f a ≡ b)
map_some f none e = none≢some e
map_some f (some a) e = (a, refl, some_inj e)

pub map_none : {A B : Type 0} (f : A → B) (o : Option A) → Option.map f o ≡ none → o ≡ none
map_none f none e = refl
map_none f (some a) e = none≢some (sym e)

pub other_id : (n q : ℕ) → eqb n q ≡ false → q ≡ n → ⊥
other_id n q e z = subst T e (subst (λ i. T (eqb n i)) (sym z) (eqb_refl n))

pub this_id : (n q : ℕ) → eqb n q ≡ true → n ≡ q
this_id n q e = eqb→eq n q (subst T (sym e) tt)

-- ---- the new file's and the old file's definitions

abbrev pub new_env : List (Mark MarkedPrototype) → List Prototype
new_env = map (λ (m : Mark MarkedPrototype). new_prototype (unmark m))

unfoldable pub old_env : List (Mark MarkedPrototype) → List Prototype
old_env [] = []
old_env (old p ∷ env) = old_prototype p ∷ old_env env
old_env (inserted p ∷ env) = old_env env

defines_new : (M : MarkedRecords) (env : List (Mark MarkedPrototype)) → define_all (new_records M) (new_env env) ≡ new_env (marked_prototypes M env)
unfolding define_all new_records marked_prototypes define unmark
defines_new [] env = refl
defines_new (old (marked_prototype p) ∷ l) env = defines_new l (old p ∷ env)
defines_new (inserted (marked_prototype p) ∷ l) env = defines_new l (inserted p ∷ env)
defines_new (old (marked_block b) ∷ l) env = defines_new l env
defines_new (inserted (marked_block b) ∷ l) env = defines_new l env

defines_old : (M : MarkedRecords) (env : List (Mark MarkedPrototype)) → define_all (old_records M) (old_env env) ≡ old_env (marked_prototypes M env)
unfolding define_all old_records marked_prototypes define old_env
defines_old [] env = refl
defines_old (old (marked_prototype p) ∷ l) env = defines_old l (old p ∷ env)
defines_old (inserted (marked_prototype p) ∷ l) env = defines_old l (inserted p ∷ env)
defines_old (old (marked_block b) ∷ l) env = defines_old l env
defines_old (inserted (marked_block b) ∷ l) env = defines_old l env

pub new_last : (M : MarkedRecords) → prototypes_of (new_records M) ≡ new_env (marked_prototypes M [])
unfolding prototypes_of
new_last M = defines_new M []

pub old_last : (M : MarkedRecords) → prototypes_of (old_records M) ≡ old_env (marked_prototypes M [])
unfolding prototypes_of old_env
old_last M = defines_old M []

pub new_find : (n : ℕ) (env : List (Mark MarkedPrototype)) → get_prototype n (new_env env) ≡ Option.map (λ (m : Mark MarkedPrototype). new_prototype (unmark m)) (get_marked n env)
new_find n env = find_map (λ (m : Mark MarkedPrototype). (unmark m).id) (λ (p : Prototype). p.id) (λ (m : Mark MarkedPrototype). new_prototype (unmark m)) (λ a. refl) n env

pub new_known : (n : ℕ) (env : List (Mark MarkedPrototype)) {m : Mark MarkedPrototype} → get_marked n env ≡ some m → get_prototype n (new_env env) ≡ some (new_prototype (unmark m))
new_known n env e = new_find n env ∙ ap (Option.map (λ (m : Mark MarkedPrototype). new_prototype (unmark m))) e

pub new_back : (n : ℕ) (env : List (Mark MarkedPrototype)) {p : Prototype} → get_prototype n (new_env env) ≡ some p
    → (m : Mark MarkedPrototype) × (get_marked n env ≡ some m) × (new_prototype (unmark m) ≡ p)
new_back n env e = map_some (λ (m : Mark MarkedPrototype). new_prototype (unmark m)) (get_marked n env) (sym (new_find n env) ∙ e)

is_old : {A : Type 0} → Mark A → Option (Mark A)
is_old (old a) = some (old a)
is_old (inserted a) = none

-- an old definition that is the last one is the last one without the inserted ones
pub old_known : (n : ℕ) (env : List (Mark MarkedPrototype)) {p : MarkedPrototype} → get_marked n env ≡ some (old p) → get_prototype n (old_env env) ≡ some (old_prototype p)
unfolding old_env find_by unmark is_old
old_known n [] e = none≢some e
old_known n (old q ∷ env) {p} e = go (eqb n q.id) (old_known n env) e
  where
    go : (b : Bool) → (get_marked n env ≡ some (old p) → get_prototype n (old_env env) ≡ some (old_prototype p)) → cond b (some (old q)) (get_marked n env) ≡ some (old p)
        → cond b (some (old_prototype q)) (get_prototype n (old_env env)) ≡ some (old_prototype p)
    go true ih k = ap (λ z. some (old_prototype (unmark z))) (some_inj k)
    go false ih k = ih k
old_known n (inserted q ∷ env) {p} e = go (eqb n q.id) (old_known n env) e
  where
    go : (b : Bool) → (get_marked n env ≡ some (old p) → get_prototype n (old_env env) ≡ some (old_prototype p)) → cond b (some (inserted q)) (get_marked n env) ≡ some (old p)
        → get_prototype n (old_env env) ≡ some (old_prototype p)
    go true ih k = let z : ◌≡◌ {A = Mark MarkedPrototype} (inserted q) (old p) = some_inj k in none≢some (ap is_old z)
    go false ih k = ih k

-- ---- (ii): the two lists find the same but for the id x

pub record Agree (x : ℕ) (env env' : List (Mark MarkedPrototype)) : Type 0 where
  pub agrees : (q : ℕ) → (q ≡ x → ⊥) → get_marked q env' ≡ get_marked q env

pub agree_refl : (x : ℕ) (env : List (Mark MarkedPrototype)) → Agree x env env
agree_refl x env = record { agrees = λ q h. refl }

pub agree_cons : (x : ℕ) (m : Mark MarkedPrototype) {env env' : List (Mark MarkedPrototype)} → Agree x env env' → Agree x (m ∷ env) (m ∷ env')
unfolding find_by
agree_cons x m {env} {env'} a = record { agrees = λ q h. ap (λ z. cond (eqb q (unmark m).id) (some m) z) (a.agrees q h) }

cond_other : {A : Type 0} (q x : ℕ) (a b : Option A) → (q ≡ x → ⊥) → cond (eqb q x) a b ≡ b
cond_other {A} q x a b h = go (eqb q x) refl
  where
    go : (c : Bool) → eqb q x ≡ c → cond c a b ≡ b
    go true e = absurd (h (this_id q x e))
    go false e = refl

pub agree_new : (m : Mark MarkedPrototype) (env : List (Mark MarkedPrototype)) → Agree (unmark m).id env (m ∷ env)
unfolding find_by
agree_new m env = record { agrees = λ q h. cond_other q (unmark m).id (some m) (get_marked q env) h }

agree_defines : (x : ℕ) (M : MarkedRecords) {env env' : List (Mark MarkedPrototype)} → Agree x env env' → Agree x (marked_prototypes M env) (marked_prototypes M env')
unfolding marked_prototypes
agree_defines x [] a = a
agree_defines x (old (marked_prototype p) ∷ l) a = agree_defines x l (agree_cons x (old p) a)
agree_defines x (inserted (marked_prototype p) ∷ l) a = agree_defines x l (agree_cons x (inserted p) a)
agree_defines x (old (marked_block b) ∷ l) a = agree_defines x l a
agree_defines x (inserted (marked_block b) ∷ l) a = agree_defines x l a

pub agree_insert : (k : ℕ) (p : MarkedPrototype) (M : MarkedRecords) (env : List (Mark MarkedPrototype))
    → Agree p.id (marked_prototypes M env) (marked_prototypes (insert_at k (inserted (marked_prototype p)) M) env)
unfolding marked_prototypes insert_at unmark
agree_insert zero p M env = agree_defines p.id M (agree_new (inserted p) env)
agree_insert (suc k) p [] env = agree_new (inserted p) env
agree_insert (suc k) p (old (marked_prototype m) ∷ l) env = agree_insert k p l (old m ∷ env)
agree_insert (suc k) p (inserted (marked_prototype m) ∷ l) env = agree_insert k p l (inserted m ∷ env)
agree_insert (suc k) p (old (marked_block b) ∷ l) env = agree_insert k p l env
agree_insert (suc k) p (inserted (marked_block b) ∷ l) env = agree_insert k p l env

-- ---- (iii): a block defines nothing

pub block_insert : (k : ℕ) (b : MarkedBlock) (M : MarkedRecords) (env : List (Mark MarkedPrototype)) → marked_prototypes (insert_at k (inserted (marked_block b)) M) env ≡ marked_prototypes M env
unfolding marked_prototypes insert_at
block_insert zero b M env = refl
block_insert (suc k) b [] env = refl
block_insert (suc k) b (old (marked_prototype m) ∷ l) env = block_insert k b l (old m ∷ env)
block_insert (suc k) b (inserted (marked_prototype m) ∷ l) env = block_insert k b l (inserted m ∷ env)
block_insert (suc k) b (old (marked_block c) ∷ l) env = block_insert k b l env
block_insert (suc k) b (inserted (marked_block c) ∷ l) env = block_insert k b l env

-- ---- (i): env' is env with the new definition in those of the id n

pub record Widens (n p : ℕ) (d : Consumed ValuePrototype) (env env' : List (Mark MarkedPrototype)) : Type 0 where
  pub agree : Agree n env env'
  pub own : (m : Mark MarkedPrototype) → get_marked n env ≡ some m → get_marked n env' ≡ some (map_mark (into_prototype true p d) m)

pub widens_nil : (n p : ℕ) (d : Consumed ValuePrototype) → Widens n p d [] []
unfolding find_by
widens_nil n p d = record { agree = agree_refl n []; own = λ m e. none≢some e }

find_hit : (q : ℕ) (m : Mark MarkedPrototype) (env : List (Mark MarkedPrototype)) → q ≡ (unmark m).id → get_marked q (m ∷ env) ≡ some m
unfolding find_by
find_hit q m env e = go (eqb q (unmark m).id) (subst (λ z. T (eqb q z)) e (eqb_refl q))
  where
    go : (c : Bool) → T c → cond c (some m) (get_marked q env) ≡ some m
    go true h = refl
    go false h = absurd h

not_into : (p : ℕ) (d : Consumed ValuePrototype) (m : Mark MarkedPrototype) → map_mark (into_prototype false p d) m ≡ m
unfolding map_mark insert_if
not_into p d (old m) = refl
not_into p d (inserted m) = refl

id_into : (c : Bool) (p : ℕ) (d : Consumed ValuePrototype) (m : Mark MarkedPrototype) → (unmark (map_mark (into_prototype c p d) m)).id ≡ (unmark m).id
id_into c p d m = ap (λ (z : MarkedPrototype). z.id) (unmark_map (into_prototype c p d) m)

pub widens_cons : (n p : ℕ) (d : Consumed ValuePrototype) (m : Mark MarkedPrototype) {env env' : List (Mark MarkedPrototype)} → Widens n p d env env'
    → Widens n p d (m ∷ env) (map_mark (into_prototype (eqb n (unmark m).id) p d) m ∷ env')
widens_cons n p d m {env} {env'} w = go (eqb n (unmark m).id) refl
  where
    go : (c : Bool) → eqb n (unmark m).id ≡ c → Widens n p d (m ∷ env) (map_mark (into_prototype c p d) m ∷ env')
    go false q =
        let ne : n ≡ (unmark m).id → ⊥ = λ z. other_id n (unmark m).id q (sym z) in
        subst (λ z. Widens n p d (m ∷ env) (z ∷ env')) (sym (not_into p d m)) (record {
          agree = agree_cons n m w.agree;
          own = λ y e. (agree_new m env').agrees n ne ∙ w.own y (sym ((agree_new m env).agrees n ne) ∙ e);
        })
    go true q =
        let is : n ≡ (unmark m).id = this_id n (unmark m).id q in
        record {
          agree = record {
            agrees = λ x ne.
                (agree_new (map_mark (into_prototype true p d) m) env').agrees x (λ z. ne (z ∙ id_into true p d m ∙ sym is))
                ∙ w.agree.agrees x ne ∙ sym ((agree_new m env).agrees x (λ z. ne (z ∙ sym is)));
          };
          own = λ y e.
              find_hit n (map_mark (into_prototype true p d) m) env' (is ∙ sym (id_into true p d m))
              ∙ ap (λ z. some (map_mark (into_prototype true p d) z)) (some_inj (sym (find_hit n m env is) ∙ e));
        }

pub widens_defines : (n p : ℕ) (d : Consumed ValuePrototype) (v : ℕ → DataValue) (k : ℕ) (M : MarkedRecords) {env env' : List (Mark MarkedPrototype)} → Widens n p d env env'
    → Widens n p d (marked_prototypes M env) (marked_prototypes (insert_field n p d v k M) env')
unfolding marked_prototypes insert_field map_mark unmark
widens_defines n p d v k [] w = w
widens_defines n p d v k (old (marked_prototype m) ∷ l) w = widens_defines n p d v k l (widens_cons n p d (old m) w)
widens_defines n p d v k (inserted (marked_prototype m) ∷ l) w = widens_defines n p d v k l (widens_cons n p d (inserted m) w)
widens_defines n p d v k (old (marked_block b) ∷ l) w = widens_defines n p d v (suc k) l w
widens_defines n p d v k (inserted (marked_block b) ∷ l) w = widens_defines n p d v (suc k) l w

pub into_all : (p : ℕ) (d : Consumed ValuePrototype) (m : Mark MarkedPrototype) → all (unmark (map_mark (into_prototype true p d) m)).fields ≡ insert_if true p d (all (unmark m).fields)
into_all p d m = ap (λ (z : MarkedPrototype). all z.fields) (unmark_map (into_prototype true p d) m) ∙ all_insert_if true p d (unmark m).fields

-- the look-up of a block's id, before and after
pub own_known : (n p : ℕ) (d : Consumed ValuePrototype) {env env' : List (Mark MarkedPrototype)} (q : ℕ) {m : Mark MarkedPrototype} → eqb n q ≡ true → Widens n p d env env'
    → get_marked q env ≡ some m → get_marked q env' ≡ some (map_mark (into_prototype true p d) m)
own_known n p d {env} {env'} q {m} e w k =
    ap (λ z. get_marked z env') (sym (this_id n q e)) ∙ w.own m (ap (λ z. get_marked z env) (this_id n q e) ∙ k)
