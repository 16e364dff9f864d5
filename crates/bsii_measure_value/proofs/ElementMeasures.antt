-- Elements and rows of them, measured.
use mathlib.Core.Path.{◌≡◌, refl, sym, ap, ◌∙◌}
use Prim.Native.Nat.{ℕ, ◌+◌, ◌-◌, ◌*◌, ◌≤◌, ◌<◌}
use native.Mathlib.Omega.{arith}
use mathlib.Core.Option.{Option, none, some, get_or}
use mathlib.Core.List.{List, []}
use lib.ListN.{length, take, drop, length-drop}
use lib.Seq.{get_or-drop}
use Rattle.bsii_format.specs.Reader.{ok, after, with, consumed, repeat}
use Rattle.bsii_format.specs.Strings.{str_parser, encoded_str_parser, id_parser}
use Rattle.bsii_format.specs.Types.{Kind, string, encoded_string, id}
use Rattle.bsii_format.specs.Values.{Element, str, word, ident, element_parser}
use Rattle.bsii_format.specs.Digits.{decimal}
use Rattle.bsii_format.specs.Text.{string_text, encoded_string_text, id_text, element_text}
use Rattle.bsii_format.specs.File.{length_limit}
use Rattle.bsii_format.proofs.Parsers.{element_exact}
use Rattle.bsii_format.proofs.Positions.{moved, consumed_ok}
use Rattle.bsii_length.specs.Bounds.{element_bound, line_bound}
use Rattle.bsii_length.proofs.Taken.{Bytes, Input, nil}
use Rattle.bsii_length.proofs.Elements.{size, element_takes}
use Rattle.bsii_string.specs.declared.answers.Refusal.{Refusal}
use Rattle.bsii_measure_string.specs.Measured.{long_at, measured, element_size, line_size, row_size}
use Rattle.std.specs.Prelude.{Err}
use Rattle.bsii_measure_string.proofs.Measures.{measured_ok, measured_fault, measured_map, sum_start, sum_next, sum_fault, sum_done}
use Rattle.bsii_measure_value.specs.Rows.{RowMeasured}

-- ---- by kind

pub string_element : (at : ℕ) (s : List ℕ) → measured (λ t. length (string_text t)) (str_parser at s) ≡ measured element_size (element_parser string at s)
unfolding element_parser element_size element_text
string_element at s = sym (measured_map element_size str str_parser at s)

pub word_element : (at : ℕ) (s : List ℕ) → measured (λ w. length (encoded_string_text w)) (encoded_str_parser at s) ≡ measured element_size (element_parser encoded_string at s)
unfolding element_parser element_size element_text
word_element at s = sym (measured_map element_size word encoded_str_parser at s)

pub id_element : (at : ℕ) (s : List ℕ) → measured (λ i. length (id_text i)) (id_parser at s) ≡ measured element_size (element_parser id at s)
unfolding element_parser element_size element_text
id_element at s = sym (measured_map element_size ident id_parser at s)

-- ---- how long they can be

pub input_at : (s : List ℕ) (at : ℕ) → Bytes s → length s ≤ length_limit → Input (drop at s)
input_at s at h k = record { bytes = λ i. rw get_or-drop (h (at + i)); short = rw length-drop (omega arith) }

size_is : (o : Option (List ℕ)) → length (get_or o []) ≡ size o
size_is none = refl
size_is (some t) = refl

pub element_moves : (s : List ℕ) (at : ℕ) → Bytes s → length s ≤ length_limit → (k : Kind) {e : Element} {n : ℕ}
    → element_parser k at (drop at s) ≡ ok e n (drop n s) → (at < n) × (n ≤ length s)
element_moves s at h l k {e} {n} f =
    let t = (element_takes k).taken at (drop at s) e n (drop n s) (input_at s at h l) f in
    let i : at < length s = omega (arith, t.long, length-drop at s, t.holds.some) in
    let m = (moved (element_exact k) s at f).inside (omega arith) in
    (omega (arith, t.long, length-drop at s, length-drop n s, t.holds.some), m)

pub record Fine (s : List ℕ) (at n long : ℕ) : Type 0 where
  pub most : long ≤ element_bound
  pub later : at < n
  pub inside : n ≤ length s

pub element_fine : (s : List ℕ) (at : ℕ) → Bytes s → length s ≤ length_limit → (k : Kind) {n long : ℕ}
    → long_at n long ≡ measured element_size (element_parser k at (drop at s)) → Fine s at n long
unfolding element_size
element_fine s at h l k {n} {long} e =
    let q = measured_ok (element_exact k) element_size s at e in
    let t = (element_takes k).taken at (drop at s) q.value n (drop n s) (input_at s at h l) q.reads in
    let m = element_moves s at h l k q.reads in
    record { most = omega (arith, q.long, size_is (element_text [] q.value), t.holds.text [] nil); later = m.0; inside = m.1 }

-- ---- a loop over a row's elements adds up their lines

-- before the element i
pub record Adding (s : List ℕ) (start count : ℕ) (k : Kind) (name at long i : ℕ) : Type 0 where
  pub upto : i ≤ count
  pub from : start ≤ at
  pub inside : at ≤ length s
  pub few : long + line_bound * start ≤ line_bound * at
  pub sum : measured (λ l. long + row_size (line_size name) i l) (repeat (count - i) (consumed (element_parser k)) at (drop at s))
      ≡ measured (row_size (line_size name) 0) (repeat count (consumed (element_parser k)) start (drop start s))

pub adding_start : (s : List ℕ) (start count : ℕ) (k : Kind) (name : ℕ) → start ≤ length s → Adding s start count k name start 0 0
adding_start s start count k name h = record {
  upto = omega arith;
  from = omega arith;
  inside = h;
  few = omega arith;
  sum =
      let z : count - 0 ≡ count = omega arith in
      sum_start (line_size name) refl (repeat (count - 0) (consumed (element_parser k)) start (drop start s)) ∙ ap (λ c. measured (row_size (line_size name) 0) (repeat c (consumed (element_parser k)) start (drop start s))) z;
}

module _ (s : List ℕ) {start count : ℕ} {k : Kind} {name at long i : ℕ} (a : Adding s start count k name at long i) where
  pub adding_fits : length s ≤ length_limit → long ≤ line_bound * length_limit
  adding_fits l = omega (arith, a.inside, a.few)

  pub adding_fault : i < count → {f : Refusal} → Err f ≡ measured element_size (element_parser k at (drop at s)) → RowMeasured s start count k name (Err f)
  unfolding consumed after
  adding_fault h e = record {
    is = sum_fault (consumed (element_parser k)) (line_size name) s (count - i) at i long (omega arith) (rw (measured_fault element_size (element_parser k at (drop at s)) e)) ∙ a.sum;
    fine = tt;
  }

  pub adding_next : i < count → name ≤ length_limit → {n more d : ℕ} → d ≡ length (decimal i) → d ≤ 20 → long_at n more ≡ measured element_size (element_parser k at (drop at s)) → Fine s at n more
      → Adding s start count k name n (long + (name + d + 7 + more)) (i + 1)
  adding_next h g {n} {more} {d} w t e f = record {
    upto = omega arith;
    from = omega (arith, a.from, f.later);
    inside = f.inside;
    few = omega (arith, a.few, f.later, f.most);
    sum =
        let q = measured_ok (element_exact k) element_size s at e in
        let c = consumed_ok (element_parser k) q.reads in
        let j : count - (i + 1) ≡ count - i - 1 = omega arith in
        let z : name + d + 7 + more ≡ line_size name i (with q.value (take (n - at) (drop at s))) =
        unfold line_size in ap (λ x. name + x + 7 + more) w ∙ ap (λ x. name + length (decimal i) + 7 + x) q.long in
        rw (j, z) (sum_next (consumed (element_parser k)) (line_size name) s (count - i) at i long (omega arith) c ∙ a.sum);
  }

  pub adding_done : count ≤ i → RowMeasured s start count k name (long_at at long)
  adding_done h = record {
    is = sum_done (consumed (element_parser k)) (line_size name) s (count - i) at i long (omega arith) ∙ a.sum;
    fine = (a.from, a.inside, a.few);
  }
