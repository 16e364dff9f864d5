-- An index in bytes: a number of w bytes is read as it was written if it is below 256 ^ w; a record has 4 · w bytes, so record k starts at k of them.
use mathlib.Core.Path.{◌≡◌, refl, sym, ap, ◌∙◌, subst}
use Prim.Native.Nat.{ℕ, zero, suc, ◌+◌, ◌*◌, ◌/◌, ◌%◌, ◌^◌, ◌<◌}
use native.Mathlib.Nat.{pow-suc, div-add-mod', zero-mul, suc-mul}
use native.Mathlib.Omega.{arith}
use mathlib.Core.Option.{Option, none, some}
use mathlib.Core.List.{List, [], ◌∷◌, ◌++◌}
use lib.ListN.{length, drop, get_elem?, length-append}
use lib.Seq.{drop-append-add}
use lib.Dec.{leb, leb→le}
use Rattle.bsii_format.specs.Reader.{◌>>=◌, after, bytes, ◌<$>◌}
use Rattle.bsii_format.specs.Numbers.{little_endian, number, le}
use Rattle.bsii_format.proofs.Readers.{Fits, is_false, bind_fits, map_fits, bytes_fits}
use Rattle.bsii_derived.specs.Index.{IndexRecord, index_record_bytes, index_bytes, index_record_parser, whole, record_at}
use Rattle.bsii_derived.specs.IndexClaims.{Held}

pub none≢some : {A P : Type 0} {a : A} → ◌≡◌ {A = Option A} none (some a) → P
none≢some e = let z : ◌≡◌ {A = ℕ} 0 1 = cc in let f : ⊥ = omega arith in absurd f

pub some_is : {A : Type 0} {a b : A} → ◌≡◌ {A = Option A} (some a) (some b) → a ≡ b
some_is e = cc

drop-nil : (n : ℕ) → ◌≡◌ {A = List ℕ} (drop n []) []
drop-nil zero = refl
drop-nil (suc n) = refl

pub le_length : (w n : ℕ) → length (le w n) ≡ w
unfolding le
le_length zero n = refl
le_length (suc w) n = ap suc (le_length w (n / 256))

pub le_value : (w n : ℕ) → n < 256 ^ w → little_endian (le w n) ≡ n
unfolding le little_endian
le_value zero n h = omega arith
le_value (suc w) n h =
    let z : n / 256 < 256 ^ w = omega (arith, pow-suc 256 w, div-add-mod' n 256, h) in
    ap (λ m. n % 256 + 256 * m) (le_value w (n / 256) z) ∙ omega (arith, div-add-mod' n 256)

-- ---- records

number_fits : (w n : ℕ) → n < 256 ^ w → Fits ℕ (number w) n (le w n)
unfolding number
number_fits w n h = subst (λ v. Fits ℕ (number w) v (le w n)) (le_value w n h) (map_fits little_endian (bytes_fits (le w n) w (le_length w n)))

module _ (w : ℕ) where
  record_fits : (r : IndexRecord) → Held w r → Fits IndexRecord (index_record_parser w) r (index_record_bytes w r)
  unfolding index_record_parser index_record_bytes ◌<$>◌
  record_fits r h =
      bind_fits _ (number_fits w r.offset h.offset) (bind_fits _ (number_fits w r.size h.size) (bind_fits _ (number_fits w r.prototype h.prototype)
      (map_fits (λ (d : ℕ). record { offset = r.offset; size = r.size; prototype = r.prototype; fields = d }) (number_fits w r.fields h.fields))))

  pub record_length : (r : IndexRecord) → length (index_record_bytes w r) ≡ 4 * w
  unfolding index_record_bytes
  record_length r = rw (length-append, length-append, length-append, le_length, le_length, le_length, le_length) (omega arith)

  pub index_length_law : (l : List IndexRecord) → length (index_bytes w l) ≡ length l * (4 * w)
  unfolding index_bytes
  index_length_law [] = omega arith
  index_length_law (r ∷ l) = rw (length-append, record_length) (omega (arith, index_length_law l, suc-mul (length l) (4 * w)))

  -- record k starts behind k records
  behind_one : (k : ℕ) (r : IndexRecord) (l : List IndexRecord) → drop (suc k * (4 * w)) (index_bytes w (r ∷ l)) ≡ drop (k * (4 * w)) (index_bytes w l)
  unfolding index_bytes
  behind_one k r l =
      let z : suc k * (4 * w) ≡ length (index_record_bytes w r) + k * (4 * w) = rw record_length (omega (arith, suc-mul k (4 * w))) in
      ap (λ n. drop n (index_record_bytes w r ++ index_bytes w l)) z ∙ drop-append-add (index_record_bytes w r) (index_bytes w l) (k * (4 * w))

  there : (l : List IndexRecord) (k at : ℕ) {r : IndexRecord} → get_elem? l k ≡ some r → Held w r → whole (index_record_parser w at (drop (k * (4 * w)) (index_bytes w l))) ≡ some r
  unfolding whole index_bytes
  there [] k at e h = none≢some e
  there (x ∷ l) zero at {r} e h =
      let y : x ≡ r = some_is e in
      ap (λ z. whole (index_record_parser w at (drop z (index_record_bytes w x ++ index_bytes w l)))) (zero-mul (4 * w))
      ∙ ap (λ z. whole (index_record_parser w at (index_record_bytes w z ++ index_bytes w l))) y ∙ ap whole ((record_fits r h).reads at (index_bytes w l))
  there (x ∷ l) (suc k) at e h = ap (λ z. whole (index_record_parser w at z)) (behind_one k x l) ∙ there l k at e h

  missing : (l : List IndexRecord) (k at : ℕ) → 0 < w → get_elem? l k ≡ none → whole (index_record_parser w at (drop (k * (4 * w)) (index_bytes w l))) ≡ none
  unfolding whole index_bytes index_record_parser number bytes ◌<$>◌ ◌>>=◌ after
  missing [] k at h e = rw (drop-nil, is_false (leb w 0) (λ t. let z = leb→le w 0 t in omega arith)) refl
  missing (x ∷ l) zero at h e = none≢some (sym e)
  missing (x ∷ l) (suc k) at h e = ap (λ z. whole (index_record_parser w at z)) (behind_one k x l) ∙ missing l k at h e

  pub record_there : (l : List IndexRecord) (k : ℕ) {r : IndexRecord} → get_elem? l k ≡ some r → Held w r → record_at w (index_bytes w l) k ≡ some r
  unfolding record_at
  record_there l k e h = there l k (k * (4 * w)) e h

  pub record_missing : (l : List IndexRecord) (k : ℕ) → 0 < w → get_elem? l k ≡ none → record_at w (index_bytes w l) k ≡ none
  unfolding record_at
  record_missing l k h e = missing l k (k * (4 * w)) h e
