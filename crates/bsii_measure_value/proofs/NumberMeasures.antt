-- Elements that are numbers, and rows of them, measured.
use mathlib.Core.Path.{◌≡◌, refl, sym, ap, ap₂, ◌∙◌, subst}
use Prim.Native.Nat.{ℕ, suc, ◌+◌, ◌-◌, ◌*◌, ◌≤◌, ◌<◌}
use native.Mathlib.Nat.{zero-mul, suc-mul, mul_assoc}
use native.Mathlib.Omega.{arith}
use mathlib.Core.Logic.{⊎_elim}
use mathlib.Core.List.{List, []}
use lib.ListN.{length, take, drop}
use Rattle.bsii_format.specs.Reader.{ok, consumed, repeat}
use Rattle.bsii_format.specs.Numbers.{number}
use Rattle.bsii_format.specs.Types.{Numeric, enum, width, arity, numbers}
use Rattle.bsii_format.specs.Values.{Element, nums, element_parser}
use Rattle.bsii_format.specs.Text.{enum_string, numeric_text, element_text}
use Rattle.bsii_format.specs.File.{length_limit}
use Rattle.bsii_format.proofs.Lists.{lt_or_le}
use Rattle.bsii_format.proofs.Readers.{map_ok}
use Rattle.bsii_format.proofs.Parsers.{element_exact}
use Rattle.bsii_format.proofs.Positions.{ended, ended_map, ended_consumed, ended_repeat, ended_ok, repeat_repeat, numbers_at_law}
use Rattle.bsii_length.proofs.Taken.{Bytes}
use Rattle.bsii_string.specs.Answers.{end_of}
use Rattle.bsii_string.specs.declared.answers.Refusal.{Refusal}
use Rattle.bsii_string.proofs.Ends.{alike, next_ok, fault_at_law, next_same, next≢fault}
use Rattle.bsii_value.proofs.NumberRows.{row_whole, row_cut}
use Rattle.bsii_value.proofs.ElementTexts.{own_bytes, NoEnum}
use Rattle.bsii_number_length.specs.Lengths.{NumericLength}
use Rattle.bsii_measure_string.specs.Measured.{long_at, measured, element_size, line_size, row_size}
use Rattle.std.specs.Prelude.{Ok, Err, Result as Outcome}
use Rattle.bsii_measure_value.specs.Rows.{ElementLength, RowMeasured, RowLength}
use Rattle.bsii_measure_value.proofs.ElementMeasures.{element_moves}
use Rattle.bsii_measure_value.proofs.TextSizes.{element_text_law}

-- ---- one element

pub enum_length : (raw : List ℕ) → ElementLength enum raw 0
unfolding element_parser element_size element_text numeric_text enum_string
enum_length raw = record {
  is = λ e f. let p = map_ok (nums enum) (repeat (arity enum) (number (width enum))) 0 raw f in ap element_size p.1;
  small = omega arith;
}

pub other_length : (k : Numeric) (raw : List ℕ) {r : ℕ} → NoEnum k → NumericLength k raw r → ElementLength k raw r
other_length k raw h w = record {
  is = λ e f. let x = element_text_law (numbers k) h [] 0 raw f in w.is e (length raw) [] f x.0 x.1 ∙ sym x.2;
  small = w.small;
}

pub length_by : {raw : List ℕ} {k l : Numeric} {r : ℕ} → k ≡ l → ElementLength k raw r → ElementLength l raw r
length_by {raw} {r = r} e h = subst (λ k. ElementLength k raw r) e h

module _ (s : List ℕ) (at : ℕ) (k : Numeric) where
  pub numeric_fault : {f : Refusal} → Err f ≡ end_of (element_parser (numbers k) at (drop at s)) → Err f ≡ measured element_size (element_parser (numbers k) at (drop at s))
  unfolding measured
  numeric_fault h = sym (ap (measured element_size) (fault_at_law (element_parser (numbers k) at (drop at s)) h))

  pub numeric_place : Bytes s → length s ≤ length_limit → {n : ℕ} → Ok n ≡ end_of (element_parser (numbers k) at (drop at s)) → (at < n) × (n ≤ length s)
  numeric_place b l h = element_moves s at b l (numbers k) (next_ok (element_exact (numbers k)) s at h).1

  -- by its own bytes
  reads_next : {e : Element} {n r : ℕ} → element_parser (numbers k) at (drop at s) ≡ ok e n (drop n s) → ElementLength k (take (n - at) (drop at s)) r
      → long_at n r ≡ measured element_size (element_parser (numbers k) at (drop at s))
  unfolding measured
  reads_next {e} {n} f w = ap (λ m. long_at n m) (w.is e (own_bytes (element_exact (numbers k)) s at f)) ∙ sym (ap (measured element_size) f)

  pub numeric_next : {n r : ℕ} → Ok n ≡ end_of (element_parser (numbers k) at (drop at s)) → ElementLength k (take (n - at) (drop at s)) r
      → long_at n r ≡ measured element_size (element_parser (numbers k) at (drop at s))
  numeric_next h w = reads_next (next_ok (element_exact (numbers k)) s at h).1 w

  -- ---- one of a row, whose bytes are there

  element_ended : ended (element_parser (numbers k) at (drop at s)) ≡ ended (repeat (arity k) (number (width k)) at (drop at s))
  unfolding element_parser
  element_ended = ended_map (nums k) (repeat (arity k) (number (width k))) at (drop at s)

  there : arity k * width k ≤ length s - at → (e : Element) × (element_parser (numbers k) at (drop at s) ≡ ok e (at + arity k * width k) (drop (at + arity k * width k) s))
  there h = ended_ok (element_parser (numbers k) at (drop at s)) (element_ended ∙ numbers_at_law (arity k) (width k) s at h)

  pub there_next : {n r : ℕ} → arity k * width k ≤ length s - at → n ≡ at + arity k * width k → ElementLength k (take (n - at) (drop at s)) r
      → long_at n r ≡ measured element_size (element_parser (numbers k) at (drop at s))
  there_next {n} {r} h e w =
      let x = there h in
      reads_next (x.1 ∙ ap (λ i. ok x.0 i (drop i s)) (sym e)) w

-- ---- a row

-- before the element i, with w bytes for each: there are those of this one, and the others behind it
pub record Room (start count w whole at i : ℕ) : Type 0 where
  pub fits : at + w ≤ whole
  pub rest : at + w + (count - (i + 1)) * w ≡ start + count * w

pub room : (start count w whole at i : ℕ) → start + count * w ≤ whole → i < count → at + (count - i) * w ≡ start + count * w → Room start count w whole at i
room start count w whole at i h l e =
    let z : count - i ≡ suc (count - (i + 1)) = omega arith in
    let y : (count - i) * w ≡ (count - (i + 1)) * w + w = ap (λ m. m * w) z ∙ suc-mul (count - (i + 1)) w in
    record { fits = omega arith; rest = omega arith }

module _ (s : List ℕ) (start count : ℕ) (k : Numeric) where
  row_ended : ended (repeat count (consumed (element_parser (numbers k))) start (drop start s)) ≡ ended (repeat (count * arity k) (number (width k)) start (drop start s))
  unfolding element_parser
  row_ended =
      ended_repeat count (consumed (element_parser (numbers k))) (repeat (arity k) (number (width k))) (λ at r. ended_consumed (element_parser (numbers k)) at r ∙ ended_map (nums k) (repeat (arity k) (number (width k))) at r) start (drop start s)
      ∙ repeat_repeat (number (width k)) count (arity k) start (drop start s)

  -- the end as the code computes it
  module _ {p w : ℕ} (e : p ≡ count * arity k) (f : w ≡ width k) where
    ends : {x : Outcome ℕ Refusal} → x ≡ end_of (repeat p (number w) start (drop start s)) → x ≡ end_of (repeat (count * arity k) (number (width k)) start (drop start s))
    ends h = h ∙ ap₂ (λ p w. end_of (repeat p (number w) start (drop start s))) e f

    pub row_fault : {f : Refusal} → Err f ≡ end_of (repeat p (number w) start (drop start s)) → (name : ℕ) → RowMeasured s start count (numbers k) name (Err f)
    unfolding measured
    row_fault h name = record {
      is =
          sym (ap (measured (row_size (line_size name) 0)) (fault_at_law (repeat count (consumed (element_parser (numbers k))) start (drop start s))
          (ends h ∙ sym (alike (repeat count (consumed (element_parser (numbers k))) start (drop start s)) (repeat (count * arity k) (number (width k)) start (drop start s)) row_ended))));
      fine = tt;
    }

    -- so the bytes of all elements are there
    pub row_there : {n : ℕ} → Ok n ≡ end_of (repeat p (number w) start (drop start s)) → start ≤ length s → (n ≡ start + count * (arity k * width k)) × (n ≤ length s)
    unfolding end_of
    row_there {n} h l =
        let m = mul_assoc count (arity k) (width k) in
        ⊎_elim
        (λ g. next≢fault (ends h ∙ sym (row_cut s start (count * arity k) (width k) refl refl g)))
        (λ g. let q = next_same (ends h ∙ sym (row_whole s start (count * arity k) (width k) g)) in (omega (arith, q, m), omega (arith, q)))
        (lt_or_le (length s - start) (count * arity k * width k))

  pub row_next : {name n r : ℕ} → n ≡ start + count * (arity k * width k) → RowLength s start count k name r → RowMeasured s start count (numbers k) name (long_at n r)
  row_next {name} {r = r} e h = subst (λ n. RowMeasured s start count (numbers k) name (long_at n r)) (sym e) h

  -- the loop's end is the row's
  pub row_end : {name at long i : ℕ} → count ≤ i → at + (count - i) * (arity k * width k) ≡ start + count * (arity k * width k) → RowMeasured s start count (numbers k) name (long_at at long)
      → RowLength s start count k name long
  row_end {name} {at} {long} {i} h e w =
      let z : count - i ≡ 0 = omega arith in
      let y : at ≡ start + count * (arity k * width k) = omega (arith, e, ap (λ m. m * (arity k * width k)) z, zero-mul (arity k * width k)) in
      subst (λ n. RowMeasured s start count (numbers k) name (long_at n long)) y w
