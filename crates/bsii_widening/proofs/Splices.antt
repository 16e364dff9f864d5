-- Every insertion splices bytes: an item inserted at p stands between the first p ones and the others, and bytes of lists are appended.
use mathlib.Core.Path.{◌≡◌, refl, sym, ap, ap₂, ◌∙◌}
use Prim.Native.Nat.{ℕ, zero, suc}
use mathlib.Core.Bool.{Bool, true, false, cond}
use mathlib.Core.List.{List, [], ◌∷◌, ◌++◌, append_assoc}
use lib.ListN.{take, drop, take-append-drop}
use lib.Dec.{eqb}
use Rattle.bsii_format.specs.Reader.{Consumed}
use Rattle.bsii_format.specs.Prototypes.{ValuePrototype}
use Rattle.bsii_format.specs.Blocks.{DataValue}
use Rattle.bsii_format.specs.File.{BsiiFile, Record, prototype, block, fields_bytes, values_bytes, record_bytes, records_bytes, file_bytes}
use Rattle.bsii_widening.specs.Marks.{old, inserted, unmark, map_mark, all, MarkedPrototype, MarkedBlock, marked_prototype, marked_block, MarkedRecords, new_prototype, new_block, new_records}
use Rattle.bsii_widening.specs.Insertions.{insert_at, insert_if, into_prototype, into_block, insert_field, a_prototype, a_block, insert}
use Rattle.bsii_widening.specs.Claim.{new_file}
use Rattle.bsii_widening.specs.Splices.{front_bytes, back_bytes, OnePlace, RecordSpliced, into_fields, into_values, spliced, FieldSpliced}
use Rattle.bsii_widening.proofs.Marks.{all_insert_if, new_insert_prototype, new_insert_block}

insert_split : {A : Type 0} (p : ℕ) (x : A) (l : List A) → insert_at p x l ≡ take p l ++ (x ∷ drop p l)
unfolding insert_at
insert_split zero x l = refl
insert_split (suc p) x [] = refl
insert_split (suc p) x (y ∷ l) = ap (λ z. y ∷ z) (insert_split p x l)

-- ---- bytes of a list, each item's behind the one before

module _ {A : Type 0} (raw : A → List ℕ) (bytes : List A → List ℕ) (nil : bytes [] ≡ []) (cons : (a : A) (l : List A) → bytes (a ∷ l) ≡ raw a ++ bytes l) where
  bytes_append : (l m : List A) → bytes (l ++ m) ≡ bytes l ++ bytes m
  bytes_append [] m = sym (ap (λ z. z ++ bytes m) nil)
  bytes_append (a ∷ l) m =
      cons a (l ++ m) ∙ ap (λ z. raw a ++ z) (bytes_append l m) ∙ sym (append_assoc (raw a) (bytes l) (bytes m)) ∙ ap (λ z. z ++ bytes m) (sym (cons a l))

  bytes_whole : (p : ℕ) (l : List A) → bytes (take p l) ++ bytes (drop p l) ≡ bytes l
  bytes_whole p l = sym (bytes_append (take p l) (drop p l)) ∙ ap bytes (take-append-drop p l)

  bytes_insert : (p : ℕ) (x : A) (l : List A) → bytes (insert_at p x l) ≡ bytes (take p l) ++ (raw x ++ bytes (drop p l))
  bytes_insert p x l = ap bytes (insert_split p x l) ∙ bytes_append (take p l) (x ∷ drop p l) ∙ ap (λ z. bytes (take p l) ++ z) (cons x (drop p l))

-- ---- (ii) and (iii)

file_cut : (k : ℕ) (f : BsiiFile) (r : List ℕ) (l : List Record) (s : List ℕ)
    → (f.header.raw ++ ((records_bytes (take k l) ++ (s ++ records_bytes (drop k l))) ++ f.end)) ++ r
    ≡ (f.header.raw ++ records_bytes (take k l)) ++ (s ++ (records_bytes (drop k l) ++ (f.end ++ r)))
file_cut k f r l s = simp append_assoc

one_place : (k : ℕ) (q : Record) (f : BsiiFile) (r : List ℕ) (M M' : MarkedRecords) → new_records M' ≡ insert_at k q (new_records M) → OnePlace k q f r M M'
unfolding new_file file_bytes front_bytes back_bytes records_bytes
one_place k q f r M M' e = record {
  before =
      ap (λ z. (f.header.raw ++ (z ++ f.end)) ++ r) (sym (bytes_whole record_bytes records_bytes refl (λ a l. refl) k (new_records M)))
      ∙ file_cut k f r (new_records M) [];
  after =
      ap (λ z. (f.header.raw ++ (z ++ f.end)) ++ r) (ap records_bytes e ∙ bytes_insert record_bytes records_bytes refl (λ a l. refl) k q (new_records M))
      ∙ file_cut k f r (new_records M) (record_bytes q);
}

pub record_spliced : RecordSpliced
unfolding insert
record_spliced f r M k = (
  (λ p. one_place k (prototype p) f r M (insert (a_prototype k p) M) (new_insert_prototype k p M)),
  (λ b. one_place k (block b) f r M (insert (a_block k b) M) (new_insert_block k b M)),
)

-- ---- (i)

into_prototype_law : (c : Bool) (p : ℕ) (d : Consumed ValuePrototype) (m : MarkedPrototype)
    → record_bytes (prototype (new_prototype (into_prototype c p d m))) ≡ cond c (into_fields p d.raw (new_prototype m)) (record_bytes (prototype (new_prototype m)))
unfolding record_bytes insert_if into_fields fields_bytes
into_prototype_law true p d m =
    ap (λ z. m.head ++ (z ++ m.terminator))
    (ap fields_bytes (all_insert_if true p d m.fields) ∙ bytes_insert (λ (d : Consumed ValuePrototype). d.raw) fields_bytes refl (λ a l. refl) p d (all m.fields))
into_prototype_law false p d m = refl

into_block_law : (c : Bool) (p : ℕ) (v : DataValue) (b : MarkedBlock)
    → record_bytes (block (new_block (into_block c p v b))) ≡ cond c (into_values p v.raw (new_block b)) (record_bytes (block (new_block b)))
unfolding record_bytes insert_if into_values values_bytes
into_block_law true p v b =
    ap (λ z. b.head ++ (b.id.raw ++ z))
    (ap values_bytes (all_insert_if true p v b.values) ∙ bytes_insert (λ (v : DataValue). v.raw) values_bytes refl (λ a l. refl) p v (all b.values))
into_block_law false p v b = refl

each_spot : (n p : ℕ) (d : Consumed ValuePrototype) (v : ℕ → DataValue) (k : ℕ) (M : MarkedRecords)
    → records_bytes (new_records (insert_field n p d v k M)) ≡ spliced n p d.raw (λ k. (v k).raw) k (new_records M)
unfolding records_bytes new_records insert_field map_mark unmark spliced
each_spot n p d v k [] = refl
each_spot n p d v k (old (marked_prototype m) ∷ l) = ap₂ (λ (a b : List ℕ). a ++ b) (into_prototype_law (eqb n m.id) p d m) (each_spot n p d v k l)
each_spot n p d v k (inserted (marked_prototype m) ∷ l) = ap₂ (λ (a b : List ℕ). a ++ b) (into_prototype_law (eqb n m.id) p d m) (each_spot n p d v k l)
each_spot n p d v k (old (marked_block b) ∷ l) = ap₂ (λ (a b : List ℕ). a ++ b) (into_block_law (eqb n b.prototype_id) p (v k) b) (each_spot n p d v (suc k) l)
each_spot n p d v k (inserted (marked_block b) ∷ l) = ap₂ (λ (a b : List ℕ). a ++ b) (into_block_law (eqb n b.prototype_id) p (v k) b) (each_spot n p d v (suc k) l)

cond_same : (c : Bool) (a b : List ℕ) → a ≡ b → cond c a b ≡ b
cond_same true a b e = e
cond_same false a b e = refl

no_bytes : (n p k : ℕ) (l : List Record) → spliced n p [] (λ k. []) k l ≡ records_bytes l
unfolding records_bytes record_bytes spliced into_fields into_values fields_bytes values_bytes
no_bytes n p k [] = refl
no_bytes n p k (prototype q ∷ l) =
    ap₂ (λ (a b : List ℕ). a ++ b)
    (cond_same (eqb n q.id) (into_fields p [] q) (record_bytes (prototype q))
    (ap (λ z. q.head ++ (z ++ q.terminator)) (bytes_whole (λ (d : Consumed ValuePrototype). d.raw) fields_bytes refl (λ a l. refl) p q.fields)))
    (no_bytes n p k l)
no_bytes n p k (block b ∷ l) =
    ap₂ (λ (a b : List ℕ). a ++ b)
    (cond_same (eqb n b.prototype_id) (into_values p [] b) (record_bytes (block b))
    (ap (λ z. b.head ++ (b.id.raw ++ z)) (bytes_whole (λ (v : DataValue). v.raw) values_bytes refl (λ a l. refl) p b.values)))
    (no_bytes n p (suc k) l)

pub field_spliced : FieldSpliced
unfolding insert new_file file_bytes
field_spliced f r M n p d v = record {
  before = ap (λ z. (f.header.raw ++ (z ++ f.end)) ++ r) (sym (no_bytes n p 0 (new_records M))) ∙ simp append_assoc;
  after = ap (λ z. (f.header.raw ++ (z ++ f.end)) ++ r) (each_spot n p d v 0 M) ∙ simp append_assoc;
}
