-- A record is read, compared and stored number by number.
use Prim.Native.Nat.{ℕ, suc, ◌+◌, ◌-◌, ◌*◌, ◌/◌, ◌≤◌, ◌<◌}
use mathlib.Core.Path.{◌≡◌, refl, sym, ap, ◌∙◌}
use mathlib.Core.Logic.{⊎_elim}
use mathlib.Core.Bool.{Bool, true, false, ◌&&◌}
use mathlib.Core.Option.{none, some}
use mathlib.Core.List.{List, [], ◌∷◌, ◌++◌, append_assoc}
use native.Mathlib.Nat.{suc-mul, suc-add, zero-add, le-div_iff_mul-le, div-lt_iff_lt-mul}
use native.Mathlib.Omega.{arith}
use lib.ListN.{length, take, drop, length-append, length-take, length-drop}
use lib.Seq.{sets, sets-eq, drop-drop}
use lib.Dec.{eqb}
use Rattle.bsii_format.specs.Reader.{Reader, same, after, success, ◌>>=◌}
use Rattle.bsii_format.specs.Numbers.{little_endian, number, le}
use Rattle.bsii_format.proofs.Positions.{number_at_law, number_short}
use Rattle.bsii_derived.specs.Index.{IndexRecord, index_record_bytes, index_record_parser, whole, record_at}
use Rattle.bsii_format.proofs.Lists.{lt_or_le, sets_append}
use Rattle.bsii_derived.proofs.Bytes.{le_length}
use Rattle.bsii_index_record.proofs.Numbers.{same_cut}

-- ---- read

-- record number k, where there are more records than k
pub record_fits : (k l w : ℕ) → 0 < w → k < l / (4 * w) → k * (4 * w) + 4 * w ≤ l
record_fits k l w h m = let e = (le-div_iff_mul-le {k = 4 * w} {x = suc k} {y = l} (omega arith)).0 (omega arith) in omega (arith, suc-mul k (4 * w), e)

record_lacks : (k l w : ℕ) → 0 < w → l / (4 * w) ≤ k → l < k * (4 * w) + 4 * w
record_lacks k l w h m = let e = (div-lt_iff_lt-mul {k = 4 * w} {x = l} {y = suc k} (omega arith)).0 (omega arith) in omega (arith, suc-mul k (4 * w), e)

module _ (w : ℕ) (s : List ℕ) where
  -- if it goes on to no record from the next number on, it goes on to none
  number_cut : (at : ℕ) (f : ℕ → Reader IndexRecord) → 0 < w → (at + w ≤ length s → (v : ℕ) → whole (f v (at + w) (drop (at + w) s)) ≡ none)
      → whole ((number w >>= f) at (drop at s)) ≡ none
  unfolding ◌>>=◌ after whole
  number_cut at f z h =
      ⊎_elim
      (λ (k : length s < at + w). rw (number_short w s at (omega arith)))
      (λ (k : at + w ≤ length s). rw (number_at_law w s at (omega arith)) (h k _))
      (lt_or_le (length s) (at + w))

  record_there : (at : ℕ) → at + 4 * w ≤ length s → whole (index_record_parser w at (drop at s)) ≡ some (record {
    offset = little_endian (take w (drop at s));
    size = little_endian (take w (drop (at + w) s));
    prototype = little_endian (take w (drop (at + 2 * w) s));
    fields = little_endian (take w (drop (at + 3 * w) s));
  })
  unfolding index_record_parser ◌>>=◌ after success whole
  record_there at h =
      let x : at + w + w ≡ at + 2 * w = omega arith in
      let y : at + 2 * w + w ≡ at + 3 * w = omega arith in
      rw (
        number_at_law w s at (omega arith),
        number_at_law w s (at + w) (omega arith),
        x,
        number_at_law w s (at + 2 * w) (omega arith),
        y,
        number_at_law w s (at + 3 * w) (omega arith),
      )

  record_cut : (at : ℕ) → 0 < w → length s < at + 4 * w → whole (index_record_parser w at (drop at s)) ≡ none
  unfolding index_record_parser
  record_cut at z h =
      number_cut at _ z (λ h₁ v₁.
      number_cut (at + w) _ z (λ h₂ v₂.
      number_cut (at + w + w) _ z (λ h₃ v₃.
      number_cut (at + w + w + w) _ z (λ h₄ v₄. absurd (omega arith)))))

  -- record number k
  pub found : (k : ℕ) → k * (4 * w) + 4 * w ≤ length s → record_at w s k ≡ some (record {
    offset = little_endian (take w (drop (k * (4 * w)) s));
    size = little_endian (take w (drop (k * (4 * w) + w) s));
    prototype = little_endian (take w (drop (k * (4 * w) + 2 * w) s));
    fields = little_endian (take w (drop (k * (4 * w) + 3 * w) s));
  })
  unfolding record_at
  found k h = record_there (k * (4 * w)) h

  pub not_found : (k : ℕ) → 0 < w → length s / (4 * w) ≤ k → record_at w s k ≡ none
  unfolding record_at
  not_found k z h = record_cut (k * (4 * w)) z (record_lacks k (length s) w z h)

-- ---- compared

and_assoc : (a b c : Bool) → a && (b && c) ≡ (a && b) && c
and_assoc true b c = refl
and_assoc false b c = refl

same_front : (a b : List ℕ) (m : ℕ) (l : List ℕ) → same (a ++ b) (take (length a + m) l) ≡ same a (take (length a) l) && same b (take m (drop (length a) l))
unfolding same
same_front [] b m l = rw zero-add
same_front (x ∷ a) b m [] = rw suc-add
same_front (x ∷ a) b m (y ∷ l) = rw (suc-add, same_front a b m l) (and_assoc (eqb x y) (same a (take (length a) l)) (same b (take m (drop (length a) l))))

same_next : (w n at m : ℕ) (b s : List ℕ)
    → same (le w n ++ b) (take (w + m) (drop at s)) ≡ same (le w n) (take w (drop at s)) && same b (take m (drop (at + w) s))
same_next w n at m b s =
    let z = le_length w n in
    rw (z, drop-drop w at s) at (same_front (le w n) b m (drop at s))

pub same_lacks : (w at : ℕ) (s : List ℕ) (r : IndexRecord) → length s - at < 4 * w → same (index_record_bytes w r) (take (4 * w) (drop at s)) ≡ false
unfolding index_record_bytes
same_lacks w at s r h =
    same_cut (index_record_bytes w r) (take (4 * w) (drop at s)) (simp (length-append, length-take, length-drop, le_length) (omega arith))

abbrev pub same_number : ℕ → ℕ → List ℕ → ℕ → Bool
same_number w at s n = same (le w n) (take w (drop at s))

pub same_record : (w at : ℕ) (s : List ℕ) (r : IndexRecord) → same (index_record_bytes w r) (take (4 * w) (drop at s))
    ≡ ((same_number w at s r.offset && same_number w (at + w) s r.size) && same_number w (at + 2 * w) s r.prototype)
    && same_number w (at + 3 * w) s r.fields
unfolding index_record_bytes
same_record w at s r =
    let v : 4 * w ≡ w + (w + (w + w)) = omega arith in
    let x : at + w + w ≡ at + 2 * w = omega arith in
    let y : at + 2 * w + w ≡ at + 3 * w = omega arith in
    let a = same_number w at s r.offset in
    let b = same_number w (at + w) s r.size in
    let c = same_number w (at + 2 * w) s r.prototype in
    let d = same_number w (at + 3 * w) s r.fields in
    rw (
      v,
      same_next w r.offset at (w + (w + w)) (le w r.size ++ (le w r.prototype ++ le w r.fields)) s,
      same_next w r.size (at + w) (w + w) (le w r.prototype ++ le w r.fields) s,
      x,
      same_next w r.prototype (at + 2 * w) w (le w r.fields) s,
      y,
    )
    (and_assoc a b (c && d) ∙ and_assoc (a && b) c d)

-- an answer r so far, and what `&&` makes of it and of the next number
pub goes_on : {r a v b : Bool} → r ≡ a → r ≡ true → v ≡ b → v ≡ a && b
goes_on {r} {a} {v} {b} e h f = f ∙ ap (λ (x : Bool). x && b) (sym h ∙ e)

pub ends_there : {r a v : Bool} (b : Bool) → r ≡ a → r ≡ false → v ≡ r → v ≡ a && b
ends_there b e h f = f ∙ h ∙ ap (λ (x : Bool). x && b) (sym h ∙ e)

-- ---- stored

sets_next : (l : List ℕ) (i j : ℕ) (xs ys : List ℕ) → j ≡ i + length xs → sets (sets l i xs) j ys ≡ sets l i (xs ++ ys)
sets_next l i j xs ys e = rw e (sets_append l i xs ys)

pub record_stored : (l : List ℕ) (w at : ℕ) (r : IndexRecord) → at + 4 * w ≤ length l
    → sets (sets (sets (sets l at (le w r.offset)) (at + w) (le w r.size)) (at + 2 * w) (le w r.prototype)) (at + 3 * w) (le w r.fields)
    ≡ take at l ++ (index_record_bytes w r ++ drop (at + 4 * w) l)
unfolding index_record_bytes
record_stored l w at r h =
    let a = le w r.offset in
    let b = le w r.size in
    let c = le w r.prototype in
    let d = le w r.fields in
    let la = le_length w r.offset in
    let lb = le_length w r.size in
    let lc = le_length w r.prototype in
    let ld = le_length w r.fields in
    let k : length ((a ++ b) ++ c) ≡ 3 * w = simp length-append (omega arith) in
    let j : length (a ++ b) ≡ 2 * w = simp length-append (omega arith) in
    let m : length (a ++ (b ++ (c ++ d))) ≡ 4 * w = simp length-append (omega arith) in
    rw (
      sets_next l at (at + w) a b (omega arith),
      sets_next l at (at + 2 * w) (a ++ b) c (omega arith),
      sets_next l at (at + 3 * w) ((a ++ b) ++ c) d (omega arith),
    )
    (simp append_assoc (sets-eq (a ++ (b ++ (c ++ d))) l at (omega arith) ∙ rw m (simp append_assoc)))
