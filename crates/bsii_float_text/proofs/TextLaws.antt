-- The parts of a value that is made of several numbers, and what bits that were made floats are in the text.
use Rattle.std.proofs.Common.{◌≡◌, ℕ, ◌<◌, zero, suc, ◌+◌, ◌≤◌, List, [], ◌∷◌, ◌++◌, length, get_or, take, drop, map, refl, sym, ap, ap₂, ◌∙◌, ℤ, pos, negsuc, append_assoc, add-one, arith}
use lib.Ieee.{Float, nan, binary32, of_bits}
use Rattle.std.specs.List.{All, range_with_len}
use Rattle.std.proofs.lemmas.List.{take-map, drop-map}
use Rattle.std.proofs.lemmas.List.Elements.{All-take, All-drop, All-get_or, All-from_get_or}
use Rattle.bsii_format.specs.Ascii.{ascii}
use Rattle.bsii_format.specs.Floats.{float_text, vec2_text, vec3_text, vec4_text, vec7_text, placement_text, coefficient, floor_mod, floor_div, quieted}
use Rattle.bsii_float.specs.Bits.{bits_of, floats_of}
use Rattle.bsii_float.specs.declared.floats.Floats.{Floats}
use Rattle.bsii_float.specs.declared.floats.Bits.{Bits}
use Rattle.bsii_float.specs.Texts.{row_text, floats_text}
use Rattle.bsii_float.proofs.Bits.{bits_back}
use Rattle.bsii_float.proofs.Rows.{spelled}
use Rattle.bsii_float.proofs.Sums.{sum_text}
use Rattle.bsii_window.specs.Stored.{Stored}
use Rattle.bsii_window.proofs.Stores.{stored_then, stored_being}
use Rattle.bsii_float_text.specs.Floats.{float_with, texts_with, mark, row_with, vec7_with, in_sector, position_of, position_bits, placement_with}

-- ---- parts as they are written

two : (p a q b r : List ℕ) → p ++ a ++ (q ++ b) ++ r ≡ p ++ a ++ q ++ b ++ r
two p a q b r = simp append_assoc

three : (p a q b r c s : List ℕ) → p ++ a ++ (q ++ b) ++ (r ++ c) ++ s ≡ p ++ a ++ q ++ b ++ r ++ c ++ s
three p a q b r c s = simp append_assoc

four : (p a q b r c s d t : List ℕ) → p ++ a ++ (q ++ b) ++ (r ++ c) ++ (s ++ d) ++ t ≡ p ++ a ++ q ++ b ++ r ++ c ++ s ++ d ++ t
four p a q b r c s d t = simp append_assoc

module _ (a b : List ℕ) where
  pub vec2_parts : ascii "(" ++ a ++ (ascii ", " ++ b) ++ ascii ")" ≡ vec2_text a b
  unfolding vec2_text
  vec2_parts = two (ascii "(") a (ascii ", ") b (ascii ")")

  pub vec3_parts : (c : List ℕ) → ascii "(" ++ a ++ (ascii ", " ++ b) ++ (ascii ", " ++ c) ++ ascii ")" ≡ vec3_text a b c
  unfolding vec3_text
  vec3_parts c = three (ascii "(") a (ascii ", ") b (ascii ", ") c (ascii ")")

  pub vec4_parts : (c d : List ℕ) → ascii "(" ++ a ++ (ascii "; " ++ b) ++ (ascii ", " ++ c) ++ (ascii ", " ++ d) ++ ascii ")" ≡ vec4_text a b c d
  unfolding vec4_text
  vec4_parts c d = four (ascii "(") a (ascii "; ") b (ascii ", ") c (ascii ", ") d (ascii ")")

-- ---- floats one by one

-- what stands before the closing bracket when the first i of n are written
abbrev pub front : ℕ → ℕ → List Float → List ℕ → List ℕ
front n zero v w = []
front n (suc i) v w = front n i v w ++ (mark n i ++ float_with (get_or v i nan) (get_or w i 0))

-- one more, of which the mark and the float are stored
pub front_more : {old mid new last : List ℕ} {at p q r : ℕ} (n i m : ℕ) (v : List Float) (w : List ℕ)
    → Stored old at (front n i v w) p mid → Stored mid p (mark n i) q new → Stored new q (float_text m) r last → m ≡ bits_of (get_or v i nan) (get_or w i 0)
    → Stored old at (front n (i + 1) v w) r last
front_more n i m v w f g h e = stored_being (ap (λ (k : ℕ). front n k v w) (sym (add-one i))) (stored_then f (stored_then g (stored_being (ap float_text e) h)))

-- and all of them
pub row_front : (n : ℕ) (v : List Float) (w : List ℕ) → length v ≡ n → length w ≡ n → 2 ≤ n → n ≤ 4 → front n n v w ++ ascii ")" ≡ row_with v w
unfolding row_with
row_front zero v w e f l h = absurd (omega arith)
row_front (suc zero) v w e f l h = absurd (omega arith)
row_front (suc (suc zero)) v w e f l h = vec2_parts _ _ ∙ sym (ap₂ row_with (spelled nan 2 v e) (spelled 0 2 w f))
row_front (suc (suc (suc zero))) v w e f l h = vec3_parts _ _ _ ∙ sym (ap₂ row_with (spelled nan 3 v e) (spelled 0 3 w f))
row_front (suc (suc (suc (suc zero)))) v w e f l h = vec4_parts _ _ _ _ ∙ sym (ap₂ row_with (spelled nan 4 v e) (spelled 0 4 w f))
row_front (suc (suc (suc (suc (suc n))))) v w e f l h = absurd (omega arith)

-- ---- placements

-- three of seven, a space, four
pub seven_parts : (v : List Float) (w : List ℕ) → length v ≡ 7 → length w ≡ 7 → vec7_with (map (λ k. get_or v k nan) (range_with_len 0 7)) (map (λ k. get_or w k 0) (range_with_len 0 7)) ≡ vec7_with v w
seven_parts v w e f = sym (ap₂ vec7_with (spelled nan 7 v e) (spelled 0 7 w f))

-- three of eight with their sums, a space, the four behind the sector
module _ (v : List Float) (w : List ℕ) (e : length v ≡ 8) (f : length w ≡ 8) where
  abbrev turn : List Float
  turn = get_or v 4 nan ∷ get_or v 5 nan ∷ get_or v 6 nan ∷ get_or v 7 nan ∷ []

  abbrev turn_bits : List ℕ
  turn_bits = get_or w 4 0 ∷ get_or w 5 0 ∷ get_or w 6 0 ∷ get_or w 7 0 ∷ []

  pub eight_parts : {n x z k m : ℕ} {p q : Float} → n ≡ bits_of (get_or v 3 nan) (get_or w 3 0) → x ≡ floor_mod (coefficient n) 4096 → z ≡ floor_mod (floor_div (coefficient n) 4096) 4096
      → p ≡ in_sector (get_or v 0 nan) x → q ≡ in_sector (get_or v 2 nan) z → k ≡ quieted (get_or w 0 0) → m ≡ quieted (get_or w 2 0)
      → row_with (p ∷ get_or v 1 nan ∷ q ∷ []) (k ∷ get_or w 1 0 ∷ m ∷ []) ++ ascii " " ++ row_with turn turn_bits ≡ placement_with v w
  unfolding placement_with
  eight_parts a b c g h i j =
      rw (g, h, b, c, a, i, j)
      (ap₂ (λ (x : List Float) (y : List ℕ). row_with (position_of v w) (position_bits w) ++ ascii " " ++ row_with x y)
      (sym (ap (drop 4) (spelled nan 8 v e))) (sym (ap (drop 4) (spelled 0 8 w f))))

-- ---- bits that were made floats, and stand beside them, come back

abbrev Words : List ℕ → Type 0
Words l = All (λ n. n < 0x1_0000_0000) l

texts_back : (l : List ℕ) → Words l → texts_with (map (of_bits binary32) l) l ≡ map float_text l
texts_back [] h = refl
texts_back (n ∷ l) h = ap₂ (λ (x : List ℕ) (y : List (List ℕ)). x ∷ y) (ap float_text (bits_back n (h 0 0 (omega arith)))) (texts_back l (All-drop (λ n. n < 0x1_0000_0000) 1 (n ∷ l) h))

made_row : (l : List ℕ) → Words l → row_with (map (of_bits binary32) l) l ≡ floats_text l
unfolding row_with
made_row l h = ap row_text (texts_back l h)

made_seven : (l : List ℕ) → length l ≡ 7 → Words l → vec7_with (map (of_bits binary32) l) l ≡ vec7_text l
unfolding vec7_with vec7_text
made_seven l e h =
    rw (take-map (of_bits binary32) 3 l, drop-map (of_bits binary32) 3 l)
    (ap₂ (λ (x y : List ℕ). x ++ ascii " " ++ y) (made_row (take 3 l) (All-take (λ n. n < 0x1_0000_0000) 3 l h)) (made_row (drop 3 l) (All-drop (λ n. n < 0x1_0000_0000) 3 l h))
    ∙ ap (λ (l : List ℕ). floats_text (take 3 l) ++ ascii " " ++ floats_text (drop 3 l)) (spelled 0 7 l e))

sector_below : (c : ℤ) → floor_mod c 4096 < 4096
unfolding floor_mod
sector_below (pos n) = omega arith
sector_below (negsuc n) = omega arith

made_placement : (l : List ℕ) → length l ≡ 8 → Words l → placement_with (map (of_bits binary32) l) l ≡ placement_text l
unfolding placement_with placement_text row_with
made_placement l e h =
    let c = coefficient (get_or l 3 0) in
    let back : (k : ℕ) → k < 8 → bits_of (of_bits binary32 (get_or l k 0)) (get_or l k 0) ≡ get_or l k 0 =
    λ k b. bits_back (get_or l k 0) (All-get_or (λ n. n < 0x1_0000_0000) l k 0 (omega (arith, e, b)) h) in
    ap (λ (l : List ℕ). placement_with (map (of_bits binary32) l) l) (spelled 0 8 l e)
    ∙ cc (
      back 1 (omega arith),
      back 3 (omega arith),
      back 4 (omega arith),
      back 5 (omega arith),
      back 6 (omega arith),
      back 7 (omega arith),
      sum_text (get_or l 0 0) (floor_mod c 4096) (sector_below c),
      sum_text (get_or l 2 0) (floor_mod (floor_div c 4096) 4096) (sector_below (floor_div c 4096)),
    )

words : (l : List ℕ) → ((k : ℕ) → get_or l k 0 < 0x1_0000_0000) → Words l
words l h = All-from_get_or (λ n. n < 0x1_0000_0000) l 0 (λ k b. h k)

module _ {n : ℕ} {x : Floats n} (v : Bits n) (e : x ≡ floats_of v) (h : (k : ℕ) → get_or v.items k 0 < 0x1_0000_0000) where
  pub row_back : row_with x.items v.items ≡ floats_text v.items
  row_back = ap (λ (x : Floats n). row_with x.items v.items) e ∙ made_row v.items (words v.items h)

  pub vec7_back : length v.items ≡ 7 → vec7_with x.items v.items ≡ vec7_text v.items
  vec7_back l = ap (λ (x : Floats n). vec7_with x.items v.items) e ∙ made_seven v.items l (words v.items h)

  pub placement_back : length v.items ≡ 8 → placement_with x.items v.items ≡ placement_text v.items
  placement_back l = ap (λ (x : Floats n). placement_with x.items v.items) e ∙ made_placement v.items l (words v.items h)
