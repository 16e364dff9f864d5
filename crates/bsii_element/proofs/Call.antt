-- The element call: what it answers from where elements end.
use mathlib.Core.Path.{◌≡◌, refl, sym, ap, ap₂, ◌∙◌}
use Prim.Native.Nat.{ℕ, zero, suc, ◌+◌, ◌-◌, ◌≤◌, ◌<◌}
use native.Mathlib.Omega.{arith}
use mathlib.Core.Option.{none, some}
use mathlib.Core.List.{List, []}
use lib.ListN.{length, take, drop, get_elem?, length-drop}
use lib.Seq.{take_all, length-take-le}
use lib.Dec.{leb, leb→le}
use Rattle.bsii_format.specs.Replies.{gives, refuses, refusal, absent, not_utf8}
use Rattle.bsii_format.specs.Reader.{Result, ok, fault, short_at, bytes, after, success, verify, Consumed, consumed, repeat, ◌>>=◌, ◌<$>◌}
use Rattle.bsii_format.specs.Numbers.{number}
use Rattle.bsii_format.specs.Utf8.{utf8}
use Rattle.bsii_format.specs.Strings.{str_parser, id_parser}
use Rattle.bsii_format.specs.Types.{Kind, Numeric, float, float_vec2, float_vec3, float_vec4, float_vec7, float_vec8, int32, int32_vec3, uint32, uint16, int64, uint64, bool, enum, width, arity, numbers, string, id, one, many}
use Rattle.bsii_format.specs.Values.{Element, nums, str, ident, Value, single, array, element_parser, shape_parser}
use Rattle.bsii_format.specs.BlockText.{or_refuse}
use Rattle.bsii_format.specs.Calls.{d_string, d_id, numeric_datum, datum_of, datum, Placed, placed, elements_of, of_value}
use Rattle.bsii_format.proofs.Readers.{after_ok, map_ok, cond_ok, ok_val, ok_at, map_fault}
use Rattle.bsii_format.proofs.Parsers.{element_exact, id_exact}
use Rattle.bsii_format.proofs.Positions.{ended, ended_ok, ended_fault, moved, step, moved_on, map_value, ended_consumed}
use Rattle.bsii_string.specs.Answers.{fault_is, end_of}
use Rattle.bsii_string.specs.declared.answers.Refusal.{Refusal}
use Rattle.bsii_string.proofs.Ends.{next≢fault, next_same, fault_at_law}
use Rattle.bsii_value.proofs.Elements.{one_end}
use Rattle.bsii_skip.specs.Unchecked.{unchecked_element}
use Rattle.bsii_skip.proofs.Values.{elements_same}
use Rattle.bsii_string.specs.NumbersAt.{number_at, numbers_at}
use Rattle.bsii_string.proofs.NumbersAt.{number_moves, number_is_law, numbers_from, row_length}
use Rattle.bsii_element.specs.Decoded.{decoded}
use Rattle.bsii_element.proofs.Ended.{next_ok}
use Rattle.bsii_element.proofs.PlacedElements.{standing, absent_past, extent, at_offset}
use Rattle.std.specs.Prelude.{Ok, Err}

-- the faults of an element and of a value are the call's
pub decoded_fault : (p : ℕ) (q : Result Element) {f : Refusal} → Err f ≡ end_of q → refuses (fault_is f) ≡ decoded p q
unfolding decoded
decoded_fault p q e = sym (ap (decoded p) (fault_at_law q e))

pub value_fault : (i : ℕ) (q : Result Value) {f : Refusal} → Err f ≡ end_of q → refuses (fault_is f) ≡ of_value i q
unfolding of_value
value_fault i q e = sym (ap (of_value i) (fault_at_law q e))

-- ---- one element

-- an element that is numbers, where its bytes are there: those from its start on
pub numbers_decoded : (k : Numeric) (s : List ℕ) (at : ℕ) {n : ℕ} → Ok n ≡ end_of (element_parser (numbers k) at (drop at s))
    → gives (numeric_datum k (numbers_at (arity k) (width k) (take (length s - at) (drop at s)) 0)) ≡ decoded at (element_parser (numbers k) at (drop at s))
unfolding decoded element_parser datum_of
numbers_decoded k s at {n} e =
    let q = next_ok (element_parser (numbers k) at (drop at s)) e in
    let m = map_ok (nums k) (repeat (arity k) (number (width k))) at (drop at s) q.2 in
    let whole : take (length s - at) (drop at s) ≡ drop at s = take_all (length s - at) (drop at s) (omega (arith, length-drop at s)) in
    ap (λ (l : List ℕ). gives (numeric_datum k l)) (ap (λ (l : List ℕ). numbers_at (arity k) (width k) l 0) whole ∙ numbers_from (arity k) (width k) at (drop at s) m.2)
    ∙ ap (λ (x : Element). gives (datum_of at (n - at) x)) m.1
    ∙ sym (ap (decoded at) q.2)

-- no element that is numbers is empty
numbers_refuse : (k : Numeric) → element_parser (numbers k) 0 [] ≡ short_at 0 (width k)
unfolding element_parser repeat arity width number bytes after success ◌>>=◌ ◌<$>◌
numbers_refuse float = refl
numbers_refuse float_vec2 = refl
numbers_refuse float_vec3 = refl
numbers_refuse float_vec4 = refl
numbers_refuse float_vec7 = refl
numbers_refuse float_vec8 = refl
numbers_refuse int32 = refl
numbers_refuse int32_vec3 = refl
numbers_refuse uint32 = refl
numbers_refuse uint16 = refl
numbers_refuse int64 = refl
numbers_refuse uint64 = refl
numbers_refuse bool = refl
numbers_refuse enum = refl

pub numbers_inside : (k : Numeric) (s : List ℕ) (at : ℕ) {n : ℕ} → Ok n ≡ end_of (element_parser (numbers k) at (drop at s)) → at ≤ length s
numbers_inside k s at e =
    let q = next_ok (element_parser (numbers k) at (drop at s)) e in
    let m = moved_on (element_exact (numbers k)) (numbers_refuse k) s at q.2 in
    omega (arith, m.0, m.1)

-- a string's bytes stand behind a u32
pub string_size : (s : List ℕ) (at : ℕ) {v : List ℕ} {n : ℕ} {r : List ℕ} → str_parser at (drop at s) ≡ ok v n r → n ≡ at + 4 + length v
unfolding str_parser ◌>>=◌ verify bytes
string_size s at {v} {n} {r} e =
    let q = after_ok (number 4 at (drop at s)) (λ k. verify utf8 not_utf8 (bytes k)) e in
    let p = after_ok (bytes q.0 q.1 q.2) _ q.4 in
    let w = cond_ok (utf8 p.0) (ok p.0 p.1 p.2) _ p.4 in
    let b = cond_ok (leb q.0 (length q.2)) (ok (take q.0 q.2) (q.1 + q.0) (drop q.0 q.2)) _ p.3 in
    let l : length (take q.0 q.2) ≡ q.0 = length-take-le q.0 q.2 (leb→le q.0 (length q.2) b.0) in
    let m : length (take q.0 q.2) ≡ length v = ap length (ok_val b.1 ∙ ok_val w.1) in
    omega (arith, ok_at w.1, ok_at b.1, (number_moves 4 s at q.3).0)

module _ (s : List ℕ) (at : ℕ) {n : ℕ} where
  pub string_next : Ok n ≡ end_of (str_parser at (drop at s)) → at + 4 ≤ n
  string_next e = let q = next_ok (str_parser at (drop at s)) e in omega (arith, string_size s at q.2)

  pub string_decoded : Ok n ≡ end_of (str_parser at (drop at s))
      → gives (d_string (record { offset = at + 4; size = n - at - 4 })) ≡ decoded at (element_parser string at (drop at s))
  unfolding element_parser decoded datum_of
  string_decoded e =
      let q = next_ok (str_parser at (drop at s)) e in
      let l : n - at - 4 ≡ length q.0 = omega (arith, string_size s at q.2) in
      ap (λ (m : ℕ). gives (d_string (record { offset = at + 4; size = m }))) l ∙ sym (ap (decoded at) (map_value str str_parser q.2))

  pub id_next : Ok n ≡ end_of (id_parser at (drop at s)) → at ≤ n
  id_next e = let q = next_ok (id_parser at (drop at s)) e in (moved id_exact s at q.2).later

  pub id_decoded : Ok n ≡ end_of (id_parser at (drop at s)) → gives (d_id (record { offset = at; size = n - at })) ≡ decoded at (element_parser id at (drop at s))
  unfolding element_parser decoded datum_of
  id_decoded e = let q = next_ok (id_parser at (drop at s)) e in sym (ap (decoded at) (map_value ident id_parser q.2))

-- ---- a value's elements by index

module _ (v : Value) (n : ℕ) (r : List ℕ) (i : ℕ) where
  pub value_absent : get_elem? (elements_of v) i ≡ none → refusal absent 0 ≡ of_value i (ok v n r)
  unfolding of_value or_refuse
  value_absent e = rw e

  pub value_there : {x : Placed (Consumed Element)} → get_elem? (elements_of v) i ≡ some x → gives (datum x) ≡ of_value i (ok v n r)
  unfolding of_value or_refuse
  value_there e = rw e

-- an element that is read at its place is the call's datum
pub decoded_there : (k : Kind) (s : List ℕ) (p : ℕ) (x : Consumed Element) {n : ℕ} {r : List ℕ} → element_parser k p (drop p s) ≡ ok x.value n r → length x.raw ≡ n - p
    → decoded p (element_parser k p (drop p s)) ≡ gives (datum (at_offset p x))
unfolding decoded datum
decoded_there k s p x e l = ap (decoded p) e ∙ ap (λ (m : ℕ). gives (datum_of p m x.value)) (sym l)

-- ---- a single value

module _ (k : Kind) (s : List ℕ) where
  pub single_first : decoded 0 (element_parser k 0 s) ≡ of_value 0 (shape_parser (some (one k)) 0 s)
  unfolding shape_parser elements_of placed decoded of_value ended
  single_first = go (consumed (element_parser k) 0 s) refl
    where
      go : (q : Result (Consumed Element)) → consumed (element_parser k) 0 s ≡ q → decoded 0 (element_parser k 0 s) ≡ of_value 0 (shape_parser (some (one k)) 0 s)
      go (ok w n r) h =
          let t = step (element_exact k) s 0 h in
          decoded_there k s 0 w t.reads (omega (arith, t.place)) ∙ value_there (single w) n r 0 refl ∙ ap (of_value 0) (sym (map_value single (consumed (element_parser k)) h))
      go (fault f) h =
          let e : element_parser k 0 s ≡ fault f = ended_fault (element_parser k 0 s) (sym (ended_consumed (element_parser k) 0 s) ∙ ap ended h) in
          ap (decoded 0) e ∙ ap (of_value 0) (sym (map_fault single (consumed (element_parser k)) 0 s h))

  pub single_other : (i : ℕ) {n : ℕ} → (i ≡ 0 → ⊥) → Ok n ≡ end_of (element_parser k 0 s) → refusal absent 0 ≡ of_value i (shape_parser (some (one k)) 0 s)
  unfolding shape_parser elements_of placed
  single_other zero z e = absurd (z refl)
  single_other (suc i) {n} z e =
      let q = next_ok (shape_parser (some (one k)) 0 s) (e ∙ sym (one_end k 0 s)) in
      let m = map_ok single (consumed (element_parser k)) 0 s q.2 in
      value_absent (single m.0) n q.1 (suc i) refl ∙ ap (λ (v : Value). of_value (suc i) (ok v n q.1)) m.1 ∙ ap (of_value (suc i)) (sym q.2)

-- ---- an array: a u32 count n, then n elements

pub record Array (k : Kind) (s : List ℕ) (n : ℕ) : Type 0 where
  pub elements : List (Consumed Element)
  pub rest : List ℕ
  pub value : shape_parser (some (many k)) 0 s ≡ ok (array elements) n rest
  pub row : repeat (number_at 4 s 0) (consumed (element_parser k)) 4 (drop 4 s) ≡ ok elements n rest

pub array_read : (k : Kind) (s : List ℕ) {n : ℕ} → Ok n ≡ end_of (shape_parser (some (many k)) 0 s) → Array k s n
unfolding shape_parser ◌>>=◌
array_read k s {n} e =
    let q = next_ok (shape_parser (some (many k)) 0 s) e in
    let m = map_ok array (number 4 >>= (λ n. repeat n (consumed (element_parser k)))) 0 s q.2 in
    let p = after_ok (number 4 0 s) (λ n. repeat n (consumed (element_parser k))) m.2 in
    let c : number_at 4 s 0 ≡ p.0 = number_is_law 4 s 0 p.3 in
    let t = number_moves 4 s 0 p.3 in
    record {
      elements = m.0;
      rest = q.1;
      value = q.2 ∙ ap (λ (v : Value). ok v n q.1) (sym m.1);
      row =
          ap (λ (j : ℕ). repeat j (consumed (element_parser k)) 4 (drop 4 s)) c
          ∙ ap₂ (λ (j : ℕ) (l : List ℕ). repeat p.0 (consumed (element_parser k)) j l) (sym t.0) (sym t.1)
          ∙ p.4;
    }

module _ (k : Kind) (s : List ℕ) {n : ℕ} (e : Ok n ≡ end_of (shape_parser (some (many k)) 0 s)) (i : ℕ) where
  pub array_absent : number_at 4 s 0 ≤ i → refusal absent 0 ≡ of_value i (shape_parser (some (many k)) 0 s)
  unfolding elements_of
  array_absent h =
      let a = array_read k s e in
      let l : length a.elements ≡ number_at 4 s 0 = row_length (number_at 4 s 0) (consumed (element_parser k)) 4 (drop 4 s) a.row in
      value_absent (array a.elements) n a.rest i (absent_past extent 4 a.elements i (omega arith)) ∙ ap (of_value i) (sym a.value)

  -- the element stands where i elements end, for the walk that checks nothing too
  pub array_there : i < number_at 4 s 0 → (p : ℕ) × (end_of (repeat i (unchecked_element k) 4 (drop 4 s)) ≡ Ok p) × (decoded p (element_parser k p (drop p s)) ≡ of_value i (shape_parser (some (many k)) 0 s))
  unfolding elements_of
  array_there h =
      let a = array_read k s e in
      let x = standing (element_exact k) s (number_at 4 s 0) 4 a.row i h in (
        x.start,
        elements_same k i 4 (drop 4 s) (ended_ok (repeat i (element_parser k) 4 (drop 4 s)) x.passed).1,
        decoded_there k s x.start x.it x.reads x.long
            ∙ value_there (array a.elements) n a.rest i x.found
            ∙ ap (of_value i) (sym a.value),
      )

  module _ (h : i < number_at 4 s 0) where
    pub array_element : {p : ℕ} → Ok p ≡ end_of (repeat i (unchecked_element k) 4 (drop 4 s)) → decoded p (element_parser k p (drop p s)) ≡ of_value i (shape_parser (some (many k)) 0 s)
    array_element {p} u =
        let x = array_there h in
        let e : p ≡ x.0 = next_same (u ∙ x.1) in
        ap (λ (p : ℕ). decoded p (element_parser k p (drop p s))) e ∙ x.2

    pub array_ends : {P : Type 0} {f : Refusal} → Err f ≡ end_of (repeat i (unchecked_element k) 4 (drop 4 s)) → P
    array_ends u = next≢fault (sym (array_there h).1 ∙ sym u)
