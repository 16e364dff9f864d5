-- Numbers of any width: read from the last byte on, compared and stored from the first one on.
use Prim.Native.Nat.{ℕ, suc, ◌+◌, ◌-◌, ◌*◌, ◌/◌, ◌%◌, ◌^◌, ◌≤◌, ◌<◌}
use mathlib.Core.Path.{◌≡◌, refl, sym, ◌∙◌}
use mathlib.Core.Bool.{Bool, true, false, ◌&&◌}
use mathlib.Core.List.{List, [], ◌∷◌}
use native.Mathlib.Nat.{pow-suc, pow-le-pow_right}
use native.Mathlib.Omega.{arith}
use lib.ListN.{length, take, drop, get_or, set, length-take, length-drop}
use lib.Seq.{sets, drop-cons}
use lib.Dec.{eqb}
use borrow.Author.Tests.{eq-eqb, ne_eqb}
use Rattle.bsii_format.specs.Reader.{same}
use Rattle.bsii_format.specs.Numbers.{little_endian, le}
use Rattle.bsii_string.proofs.Bytes.{byte_more}
use Rattle.bsii_derived.proofs.Bytes.{le_length}

-- ---- read

pub read_none : (s : List ℕ) (at w : ℕ) → 0 ≡ little_endian (take (w - w) (drop (at + w) s))
unfolding little_endian
read_none s at w = let z : w - w ≡ 0 = omega arith in rw z

pub read_all : (s : List ℕ) (at w left n : ℕ) → left ≡ 0 → n ≡ little_endian (take (w - left) (drop (at + left) s)) → n ≡ little_endian (take w (drop at s))
read_all s at w left n z e =
    let y : w - left ≡ w = omega arith in
    let x : at + left ≡ at = omega arith in
    simp (y, x) at e

-- one byte in front of those that were read
pub read_more : (s : List ℕ) (at w left n : ℕ) → 0 < left → left ≤ w → n ≡ little_endian (take (w - left) (drop (at + left) s))
    → n * 256 + get_or s (at + (left - 1)) 0 ≡ little_endian (take (w - (left - 1)) (drop (at + (left - 1)) s))
read_more s at w left n h k e =
    let z : w - (left - 1) ≡ suc (w - left) = omega arith in
    let y : at + (left - 1) + 1 ≡ at + left = omega arith in
    rw (z, byte_more (w - left) s (at + (left - 1)), y) (omega (arith, e))

-- what was read has at most as many bytes as were read
pub bound_more : (w left n b : ℕ) → 0 < left → left ≤ w → n < 256 ^ (w - left) → b < 256 → n * 256 + b < 256 ^ (w - (left - 1))
bound_more w left n b h k l m =
    let z : w - (left - 1) ≡ suc (w - left) = omega arith in
    rw (z, pow-suc 256 (w - left)) (omega arith)

pub bound_three : (w left n : ℕ) → 0 < left → w ≤ 4 → n < 256 ^ (w - left) → n < 16777216
bound_three w left n h m l =
    let k : w - left ≤ 3 = omega arith in
    let p : 256 ^ (w - left) ≤ 256 ^ 3 = pow-le-pow_right (omega arith) k in
    omega arith

pub bound_none : (w : ℕ) → 0 < 256 ^ (w - w)
bound_none w = let z : w - w ≡ 0 = omega arith in rw z (omega arith)

-- ---- compared

and_false : (b : Bool) → b && false ≡ false
and_false true = refl
and_false false = refl

-- fewer bytes are not the same
pub same_cut : (a b : List ℕ) → length b < length a → same a b ≡ false
unfolding same
same_cut [] b h = absurd (omega arith)
same_cut (x ∷ a) [] h = refl
same_cut (x ∷ a) (y ∷ b) h = rw (same_cut a b (omega arith)) (and_false (eqb x y))

pub same_short : (w n : ℕ) (s : List ℕ) (at : ℕ) → length s - at < w → same (le w n) (take w (drop at s)) ≡ false
same_short w n s at h = same_cut (le w n) (take w (drop at s)) (simp (length-take, length-drop, le_length) (omega arith))

-- the byte at i, and the others
module _ (w n : ℕ) (s : List ℕ) (at i : ℕ) where
  same_more : i < w → at + i < length s
      → same (le (w - i) n) (take (w - i) (drop (at + i) s))
      ≡ eqb (n % 256) (get_or s (at + i) 0) && same (le (w - (i + 1)) (n / 256)) (take (w - (i + 1)) (drop (at + (i + 1)) s))
  unfolding same le
  same_more h k =
      let z : w - i ≡ suc (w - (i + 1)) = omega arith in
      let y : at + (i + 1) ≡ suc (at + i) = omega arith in
      rw (z, drop-cons s (at + i) 0 k, y)

  pub same_equal : i < w → at + i < length s → get_or s (at + i) 0 ≡ n % 256
      → same (le (w - i) n) (take (w - i) (drop (at + i) s)) ≡ same (le (w - (i + 1)) (n / 256)) (take (w - (i + 1)) (drop (at + (i + 1)) s))
  same_equal h k e = same_more h k ∙ rw (eq-eqb (n % 256) (get_or s (at + i) 0) (sym e))

  pub same_differs : i < w → at + i < length s → (get_or s (at + i) 0 ≡ n % 256 → ⊥) → same (le (w - i) n) (take (w - i) (drop (at + i) s)) ≡ false
  same_differs h k e = same_more h k ∙ rw (ne_eqb (n % 256) (get_or s (at + i) 0) (λ x. e (sym x)))

  pub same_end : w ≤ i → same (le (w - i) n) (take (w - i) (drop (at + i) s)) ≡ true
  unfolding same le
  same_end h = let z : w - i ≡ 0 = omega arith in rw z

-- ---- stored

pub sets_more : (l : List ℕ) (w at i n : ℕ) → i < w
    → sets (set l (at + i) (n % 256)) (at + (i + 1)) (le (w - (i + 1)) (n / 256)) ≡ sets l (at + i) (le (w - i) n)
unfolding le
sets_more l w at i n h =
    let z : w - i ≡ suc (w - (i + 1)) = omega arith in
    let y : at + (i + 1) ≡ suc (at + i) = omega arith in
    rw (z, y)

pub sets_none : (l : List ℕ) (w at n : ℕ) → w ≡ 0 → sets l at (le w n) ≡ l
unfolding le
sets_none l w at n e = rw e
