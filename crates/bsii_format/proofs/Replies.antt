-- Laws about the field call's part: it is "empty exactly where the look-up refuses".
use mathlib.Core.Path.{◌≡◌, refl, ap, subst}
use Prim.Native.Nat.{ℕ, zero, suc, ◌≤◌, ◌+◌}
use native.Mathlib.Omega.{arith}
use mathlib.Core.Option.{Option, none, some, map}
use mathlib.Core.List.{List, [], ◌∷◌}
use lib.ListN.{length, get_elem?}
use Rattle.bsii_format.specs.Replies.{Fault, refuses, absent}
use Rattle.bsii_format.specs.Reader.{Result, ok, fault, after, ◌>>=◌, fail, ◌<$>◌, bytes, verify, consumed, repeat}
use Rattle.bsii_format.specs.Numbers.{number}
use Rattle.bsii_format.specs.Strings.{str_parser, encoded_str_parser, id_parser}
use Rattle.bsii_format.specs.Types.{float, float_vec2, float_vec3, float_vec4, float_vec7, float_vec8, int32, int32_vec3, uint32, uint16, int64, uint64, bool, enum, width, arity, numbers, string, encoded_string, id, Shape, one, many, shape_of}
use Rattle.bsii_format.specs.Values.{Value, element_parser, shape_parser, value_parser}
use Rattle.bsii_format.specs.Prototypes.{Prototype}
use Rattle.bsii_format.specs.Blocks.{DataValue, DataBlock, get_prototype}
use Rattle.bsii_format.specs.File.{BsiiFile, Record, prototype, block, record_bytes, prototypes_of, parse}
use Rattle.bsii_format.specs.BlockText.{or_refuse, values_offset}
use Rattle.bsii_format.specs.Calls.{of_file, Placed, placed, placed_records, cons_block, blocks_in, blocks_of, field_index, at_index, field_under, field_in, FieldAnswer, field_answer, field_of, field_call, part_of}
use Rattle.bsii_format.proofs.Readers.{Fits, takes}
use Rattle.bsii_format.proofs.Records.{GoodValues, GoodRecords, nil, cons}
use Rattle.bsii_format.proofs.File.{file_good, parse_ok}

-- ---- an accepted value has at least one byte

shape_empty : (o : Option Shape) → (f : Fault) × (shape_parser o 0 [] ≡ fault f)
unfolding shape_parser fail ◌<$>◌ ◌>>=◌ after consumed element_parser repeat number bytes str_parser encoded_str_parser id_parser verify arity width
shape_empty none = (_, refl)
shape_empty (some (one (numbers float))) = (_, refl)
shape_empty (some (one (numbers float_vec2))) = (_, refl)
shape_empty (some (one (numbers float_vec3))) = (_, refl)
shape_empty (some (one (numbers float_vec4))) = (_, refl)
shape_empty (some (one (numbers float_vec7))) = (_, refl)
shape_empty (some (one (numbers float_vec8))) = (_, refl)
shape_empty (some (one (numbers int32))) = (_, refl)
shape_empty (some (one (numbers int32_vec3))) = (_, refl)
shape_empty (some (one (numbers uint32))) = (_, refl)
shape_empty (some (one (numbers uint16))) = (_, refl)
shape_empty (some (one (numbers int64))) = (_, refl)
shape_empty (some (one (numbers uint64))) = (_, refl)
shape_empty (some (one (numbers bool))) = (_, refl)
shape_empty (some (one (numbers enum))) = (_, refl)
shape_empty (some (one string)) = (_, refl)
shape_empty (some (one encoded_string)) = (_, refl)
shape_empty (some (one id)) = (_, refl)
shape_empty (some (many k)) = (_, refl)

pub value_takes : (version t : ℕ) {v : Value} {c : List ℕ} → Fits Value (value_parser version t) v c → 1 ≤ length c
unfolding value_parser
value_takes version t h = let e = shape_empty (shape_of version t) in takes (shape_parser (shape_of version t)) h e.1

-- every value of every block
abbrev Long : List DataValue → Type 0
Long l = (i : ℕ) (v : DataValue) → get_elem? l i ≡ some v → 1 ≤ length v.raw

none≢some : {A P : Type 0} {a : A} → ◌≡◌ {A = Option A} none (some a) → P
none≢some {A} {P} e = let z : ◌≡◌ {A = ℕ} 0 1 = cc in let f : ⊥ = omega arith in absurd f

some_is : {A : Type 0} {a b : A} → ◌≡◌ {A = Option A} (some a) (some b) → a ≡ b
some_is e = cc

values_long : {version : ℕ} {fs : List _} {l : List DataValue} → GoodValues version fs l → Long l
values_long nil i v e = none≢some e
values_long {version} (cons {f = f} {v = x} g h) zero v e = subst (λ (z : DataValue). 1 ≤ length z.raw) (some_is e) (value_takes version f.value.type_id g.fit)
values_long (cons g h) (suc i) v e = values_long h i v e

blocks_long : {version : ℕ} {env : List Prototype} {l : List Record} (at : ℕ) → GoodRecords version env l → (k : ℕ) (b : Placed DataBlock)
    → get_elem? (blocks_in (placed (λ r. length (record_bytes r)) at l)) k ≡ some b → Long b.it.values
unfolding blocks_in placed cons_block
blocks_long at nil k b e = none≢some e
blocks_long at (cons {i = prototype p} g h) k b e = blocks_long _ h k b e
blocks_long at (cons {i = block x} g h) zero b e = subst (λ (z : Placed DataBlock). Long z.it.values) (some_is e) (values_long g.values)
blocks_long at (cons {i = block x} g h) (suc k) b e = blocks_long _ h k b e

placed_is : {A : Type 0} (size : A → ℕ) (at : ℕ) (l : List A) (i : ℕ) (x : Placed A) → get_elem? (placed size at l) i ≡ some x → get_elem? l i ≡ some x.it
unfolding placed
placed_is size at [] i x e = none≢some e
placed_is size at (a ∷ l) zero x e = ap (λ o. map (λ (p : Placed _). p.it) o) e
placed_is size at (a ∷ l) (suc i) x e = placed_is size (at + size a) l i x e

-- ---- the part is empty exactly where the look-up refuses

under_long : (name : List ℕ) (b : Placed DataBlock) (o : Option Prototype) (x : Placed DataValue) → Long b.it.values → field_under name b o ≡ some x → 1 ≤ length x.it.raw
unfolding field_under
under_long name b none x h e = none≢some e
under_long name b (some p) x h e = go (field_index name p.fields) e
  where
    go : (o : Option ℕ) → at_index (placed (λ (v : DataValue). length v.raw) (values_offset b.offset b.it) b.it.values) o ≡ some x → 1 ≤ length x.it.raw
    go none e = unfold at_index in none≢some e
    go (some i) e = unfold at_index in h i x.it (placed_is _ _ b.it.values i x e)

field_long : (f : BsiiFile) → GoodRecords f.header.value [] f.records → (k : ℕ) (name : List ℕ) (a : FieldAnswer) → field_of k name f ≡ some a → 1 ≤ length a.bytes
unfolding field_of blocks_of placed_records
field_long f g k name a e = go (get_elem? (blocks_in (placed (λ r. length (record_bytes r)) (length f.header.raw) f.records)) k) refl e
  where
    answer : (o : Option (Placed DataValue)) → ((x : Placed DataValue) → o ≡ some x → 1 ≤ length x.it.raw) → map field_answer o ≡ some a → 1 ≤ length a.bytes
    answer none h e = none≢some e
    answer (some x) h e = unfold field_answer in subst (λ (z : FieldAnswer). 1 ≤ length z.bytes) (some_is e) (h x refl)

    go : (o : Option (Placed DataBlock)) → get_elem? (blocks_in (placed (λ r. length (record_bytes r)) (length f.header.raw) f.records)) k ≡ o
        → map field_answer (field_in name (prototypes_of f.records) o) ≡ some a → 1 ≤ length a.bytes
    go none h e = unfold field_in in none≢some e
    go (some b) h e = unfold field_in in
        answer (field_under name b (get_prototype b.it.prototype_id (prototypes_of f.records)))
        (λ x z. under_long name b (get_prototype b.it.prototype_id (prototypes_of f.records)) x (blocks_long (length f.header.raw) g k b h) z) e

pub part_empty : (words : ℕ) (s : List ℕ) (k : ℕ) (name : List ℕ) → part_of (field_call words s k name) ≡ [] → (x : Fault) × (field_call words s k name ≡ refuses x)
unfolding field_call
part_empty words s k name e = go (parse words s) refl e
  where
    found : (f : BsiiFile) → GoodRecords f.header.value [] f.records → (o : Option FieldAnswer) → field_of k name f ≡ o → part_of (or_refuse absent 0 o) ≡ [] → (x : Fault) × (or_refuse absent 0 o ≡ refuses x)
    found f g none h e = unfold or_refuse in (_, refl)
    found f g (some a) h e = unfold or_refuse part_of in absurd (omega (arith, field_long f g k name a h, ap length e))

    go : (q : Result BsiiFile) → parse words s ≡ q → part_of (of_file (λ f at. or_refuse absent 0 (field_of k name f)) q) ≡ [] → (x : Fault) × (of_file (λ f at. or_refuse absent 0 (field_of k name f)) q ≡ refuses x)
    go (ok f at r) h e = unfold of_file in found f (file_good _ s f at r (parse_ok words s h).1).good.records (field_of k name f) refl e
    go (fault x) h e = unfold of_file in (x, refl)
