-- Laws of marks and of `insert_at`: what an insertion adds to all parts, and that it leaves the old ones as they were. By induction on the list.
use mathlib.Core.Path.{◌≡◌, refl, ap, ap₂, ◌∙◌}
use Prim.Native.Nat.{ℕ, zero, suc}
use mathlib.Core.Bool.{Bool, true, false}
use mathlib.Core.List.{List, [], ◌∷◌, ◌++◌}
use lib.Dec.{eqb}
use Rattle.bsii_format.specs.Reader.{Consumed}
use Rattle.bsii_format.specs.Prototypes.{ValuePrototype, Prototype}
use Rattle.bsii_format.specs.Blocks.{DataValue, DataBlock}
use Rattle.bsii_format.specs.File.{Record, prototype, block}
use Rattle.bsii_widening.specs.Marks.{Mark, old, inserted, unmark, map_mark, all, olds, MarkedRecord, marked_prototype, marked_block, MarkedRecords, new_prototype, new_block, new_record, old_record, new_records, old_records, as_old, mark_prototype, mark_block, mark_record, mark_records}
use Rattle.bsii_widening.specs.Insertions.{insert_at, insert_if, into_record, next_block, insert_field, Insertion, a_field, a_prototype, a_block, insert, insert_all}

pub all_insert : {A : Type 0} (p : ℕ) (x : A) (l : List (Mark A)) → all (insert_at p (inserted x) l) ≡ insert_at p x (all l)
unfolding all insert_at
all_insert zero x l = refl
all_insert (suc p) x [] = refl
all_insert (suc p) x (old y ∷ l) = ap (λ z. y ∷ z) (all_insert p x l)
all_insert (suc p) x (inserted y ∷ l) = ap (λ z. y ∷ z) (all_insert p x l)

pub all_insert_if : {A : Type 0} (b : Bool) (p : ℕ) (x : A) (l : List (Mark A)) → all (insert_if b p (inserted x) l) ≡ insert_if b p x (all l)
unfolding insert_if
all_insert_if true p x l = all_insert p x l
all_insert_if false p x l = refl

pub olds_insert : {A : Type 0} (p : ℕ) (x : A) (l : List (Mark A)) → olds (insert_at p (inserted x) l) ≡ olds l
unfolding olds insert_at
olds_insert zero x l = refl
olds_insert (suc p) x [] = refl
olds_insert (suc p) x (old y ∷ l) = ap (λ z. y ∷ z) (olds_insert p x l)
olds_insert (suc p) x (inserted y ∷ l) = olds_insert p x l

olds_insert_if : {A : Type 0} (b : Bool) (p : ℕ) (x : A) (l : List (Mark A)) → olds (insert_if b p (inserted x) l) ≡ olds l
unfolding insert_if
olds_insert_if true p x l = olds_insert p x l
olds_insert_if false p x l = refl

pub all_append : {A : Type 0} (a b : List (Mark A)) → all (a ++ b) ≡ all a ++ all b
unfolding all
all_append [] b = refl
all_append (old x ∷ a) b = ap (λ z. x ∷ z) (all_append a b)
all_append (inserted x ∷ a) b = ap (λ z. x ∷ z) (all_append a b)

pub olds_append : {A : Type 0} (a b : List (Mark A)) → olds (a ++ b) ≡ olds a ++ olds b
unfolding olds
olds_append [] b = refl
olds_append (old x ∷ a) b = ap (λ z. x ∷ z) (olds_append a b)
olds_append (inserted x ∷ a) b = olds_append a b

pub unmark_map : {A B : Type 0} (f : A → B) (m : Mark A) → unmark (map_mark f m) ≡ f (unmark m)
unfolding unmark map_mark
unmark_map f (old a) = refl
unmark_map f (inserted a) = refl

-- ---- a file in which nothing was inserted

pub all_as_old : {A : Type 0} (l : List A) → all (as_old l) ≡ l
unfolding all as_old
all_as_old [] = refl
all_as_old (a ∷ l) = ap (λ z. a ∷ z) (all_as_old l)

olds_as_old : {A : Type 0} (l : List A) → olds (as_old l) ≡ l
unfolding olds as_old
olds_as_old [] = refl
olds_as_old (a ∷ l) = ap (λ z. a ∷ z) (olds_as_old l)

pub new_mark_prototype : (p : Prototype) → new_prototype (mark_prototype p) ≡ p
unfolding mark_prototype
new_mark_prototype p = ap (λ z. record { head = p.head; id = p.id; name = p.name; fields = z; terminator = p.terminator }) (all_as_old p.fields)

new_mark_block : (b : DataBlock) → new_block (mark_block b) ≡ b
unfolding mark_block
new_mark_block b = ap (λ z. record { head = b.head; prototype_id = b.prototype_id; id = b.id; values = z }) (all_as_old b.values)

new_mark_record : (r : Record) → new_record (mark_record r) ≡ r
unfolding mark_record
new_mark_record (prototype p) = ap prototype (new_mark_prototype p)
new_mark_record (block b) = ap block (new_mark_block b)

pub new_mark_records : (l : List Record) → new_records (mark_records l) ≡ l
unfolding new_records mark_records unmark
new_mark_records [] = refl
new_mark_records (r ∷ l) = ap₂ (λ (y : Record) (z : List Record). y ∷ z) (new_mark_record r) (new_mark_records l)

old_mark_record : (r : Record) → old_record (mark_record r) ≡ r
unfolding mark_record mark_prototype mark_block
old_mark_record (prototype p) = ap (λ z. prototype (record { head = p.head; id = p.id; name = p.name; fields = z; terminator = p.terminator })) (olds_as_old p.fields)
old_mark_record (block b) = ap (λ z. block (record { head = b.head; prototype_id = b.prototype_id; id = b.id; values = z })) (olds_as_old b.values)

old_mark_records : (l : List Record) → old_records (mark_records l) ≡ l
unfolding old_records mark_records
old_mark_records [] = refl
old_mark_records (r ∷ l) = ap₂ (λ (y : Record) (z : List Record). y ∷ z) (old_mark_record r) (old_mark_records l)

-- ---- a record in front of another one

new_insert_at : (k : ℕ) (i : MarkedRecord) (M : MarkedRecords) → new_records (insert_at k (inserted i) M) ≡ insert_at k (new_record i) (new_records M)
unfolding new_records insert_at unmark
new_insert_at zero i M = refl
new_insert_at (suc k) i [] = refl
new_insert_at (suc k) i (m ∷ M) = ap (λ z. new_record (unmark m) ∷ z) (new_insert_at k i M)

pub new_insert_prototype : (k : ℕ) (p : Prototype) (M : MarkedRecords) → new_records (insert_at k (inserted (marked_prototype (mark_prototype p))) M) ≡ insert_at k (prototype p) (new_records M)
new_insert_prototype k p M = new_insert_at k (marked_prototype (mark_prototype p)) M ∙ ap (λ z. insert_at k (prototype z) (new_records M)) (new_mark_prototype p)

pub new_insert_block : (k : ℕ) (b : DataBlock) (M : MarkedRecords) → new_records (insert_at k (inserted (marked_block (mark_block b))) M) ≡ insert_at k (block b) (new_records M)
new_insert_block k b M = new_insert_at k (marked_block (mark_block b)) M ∙ ap (λ z. insert_at k (block z) (new_records M)) (new_mark_block b)

-- ---- what is not inserted stays

old_insert_at : (k : ℕ) (i : MarkedRecord) (M : MarkedRecords) → old_records (insert_at k (inserted i) M) ≡ old_records M
unfolding old_records insert_at
old_insert_at zero i M = refl
old_insert_at (suc k) i [] = refl
old_insert_at (suc k) i (old x ∷ M) = ap (λ z. old_record x ∷ z) (old_insert_at k i M)
old_insert_at (suc k) i (inserted x ∷ M) = old_insert_at k i M

old_into_record : (n p : ℕ) (d : Consumed ValuePrototype) (v : DataValue) (r : MarkedRecord) → old_record (into_record n p d v r) ≡ old_record r
old_into_record n p d v (marked_prototype m) =
    ap (λ z. prototype (record { head = m.head; id = m.id; name = m.name; fields = z; terminator = m.terminator })) (olds_insert_if (eqb n m.id) p d m.fields)
old_into_record n p d v (marked_block b) =
    ap (λ z. block (record { head = b.head; prototype_id = b.prototype_id; id = b.id; values = z })) (olds_insert_if (eqb n b.prototype_id) p v b.values)

old_insert_field : (n p : ℕ) (d : Consumed ValuePrototype) (v : ℕ → DataValue) (k : ℕ) (M : MarkedRecords) → old_records (insert_field n p d v k M) ≡ old_records M
unfolding old_records insert_field map_mark unmark
old_insert_field n p d v k [] = refl
old_insert_field n p d v k (old x ∷ M) = ap₂ (λ (y : Record) (z : List Record). y ∷ z) (old_into_record n p d (v k) x) (old_insert_field n p d v (next_block x k) M)
old_insert_field n p d v k (inserted x ∷ M) = old_insert_field n p d v (next_block x k) M

pub old_insert : (i : Insertion) (M : MarkedRecords) → old_records (insert i M) ≡ old_records M
unfolding insert
old_insert (a_field n p d v) M = old_insert_field n p d v 0 M
old_insert (a_prototype k p) M = old_insert_at k (marked_prototype (mark_prototype p)) M
old_insert (a_block k b) M = old_insert_at k (marked_block (mark_block b)) M

old_insert_all : (l : List Insertion) (M : MarkedRecords) → old_records (insert_all l M) ≡ old_records M
unfolding insert_all
old_insert_all [] M = refl
old_insert_all (i ∷ l) M = old_insert_all l (insert i M) ∙ old_insert i M

pub old_widened : (l : List Insertion) (rs : List Record) → old_records (insert_all l (mark_records rs)) ≡ rs
old_widened l rs = old_insert_all l (mark_records rs) ∙ old_mark_records rs
