-- Digits one by one, and how many there are.
use Prim.Native.Nat.{ℕ, zero, suc, ◌+◌, ◌-◌, ◌*◌, ◌/◌, ◌%◌, ◌^◌, ◌≤◌, ◌<◌}
use mathlib.Core.Path.{◌≡◌, refl, sym, ap, ◌∙◌}
use mathlib.Core.Logic.{⊎_elim}
use mathlib.Core.List.{List, [], ◌∷◌, ◌++◌, append_assoc}
use native.Mathlib.Nat.{le_trans, lt_of_lt_of_le}
use native.Mathlib.Omega.{arith}
use lib.Dec.{ltb}
use lib.ListN.{length, length-append}
use lib.Pow.{pow-add, pow_pos, pow_mono}
use lib.Count.{count_leading_zeros, leading_top}
use borrow.Author.Tests.{lt-ltb, le-ltb}
use Rattle.bsii_format.specs.Digits.{digit, digits_from, digits, decimal, hexadecimal, hex_padded}
use Rattle.bsii_format.proofs.Lists.{lt_or_le}

-- ---- any base

module _ (base : ℕ) (h : (n : ℕ) → base ≤ n → n / base < n) where
  fuel : (f g n : ℕ) → n < f → n < g → digits_from base f (ltb n base) n ≡ digits_from base g (ltb n base) n
  unfolding digits_from
  fuel zero g n l k = absurd (omega arith)
  fuel (suc f) zero n l k = absurd (omega arith)
  fuel (suc f) (suc g) n l k =
      ⊎_elim
      (λ e. rw (lt-ltb n base e) refl)
      (λ e. let d = h n e in rw (le-ltb n base e) (ap (λ (x : List ℕ). x ++ (digit (n % base) ∷ [])) (fuel f g (n / base) (omega arith) (omega arith))))
      (lt_or_le n base)

  pub one : (n : ℕ) → n < base → digits base n ≡ digit n ∷ []
  unfolding digits digits_from
  one n e = rw (lt-ltb n base e) refl

  pub more : (n : ℕ) → base ≤ n → digits base n ≡ digits base (n / base) ++ (digit (n % base) ∷ [])
  unfolding digits digits_from
  more n e = let d = h n e in rw (le-ltb n base e) (ap (λ (x : List ℕ). x ++ (digit (n % base) ∷ [])) (fuel n (suc (n / base)) (n / base) d (omega arith)))

  pub length_one : (n : ℕ) → n < base → length (digits base n) ≡ 1
  length_one n e = ap length (one n e)

  pub length_more : (n : ℕ) → base ≤ n → length (digits base n) ≡ suc (length (digits base (n / base)))
  length_more n e = ap length (more n e) ∙ length-append (digits base (n / base)) (digit (n % base) ∷ []) ∙ omega arith

  pub some_digit : (n : ℕ) → 1 ≤ length (digits base n)
  some_digit n = ⊎_elim (λ l. omega (arith, length_one n l)) (λ l. omega (arith, length_more n l)) (lt_or_le n base)

-- ---- hexadecimal

four_up : (n : ℕ) → 2 ^ (4 * suc n) ≡ 16 * 2 ^ (4 * n)
four_up n = let z : 4 * suc n ≡ 4 + 4 * n = omega arith in rw z (pow-add 2 4 (4 * n))

pub sixteen : (n : ℕ) → 16 ≤ n → n / 16 < n
sixteen n h = omega arith

-- a number between two powers of 16 has that many digits
between : (k n : ℕ) → 2 ^ (4 * k) ≤ n → n < 2 ^ (4 * suc k) → hexadecimal n ≡ hex_padded (suc k) n
unfolding hex_padded
between zero n h l =
    let z : n % 16 ≡ n = omega arith in
    one 16 sixteen n (omega arith) ∙ ap (λ (x : ℕ). digit x ∷ []) (sym z)
between (suc k) n h l =
    let p = four_up k in
    let q = four_up (suc k) in
    let o = pow_pos (4 * k) in
    more 16 sixteen n (omega arith) ∙ ap (λ (x : List ℕ). x ++ (digit (n % 16) ∷ [])) (between k (n / 16) (omega arith) (omega arith))

-- the leading zeros give the number of digits
pub hex_count : (n : ℕ) → 0 < n → n < 2 ^ 64 → hexadecimal n ≡ hex_padded ((67 - count_leading_zeros 64 n) / 4) n
hex_count n p h =
    let t = leading_top 64 n p h in
    let j = t.0 in
    let z : (67 - count_leading_zeros 64 n) / 4 ≡ suc (j / 4) = omega (arith, t.1) in
    let lo : 4 * (j / 4) ≤ j = omega arith in
    let hi : suc j ≤ 4 * suc (j / 4) = omega arith in
    rw z (between (j / 4) n (le_trans (pow_mono lo) t.2) (lt_of_lt_of_le t.3 (pow_mono hi)))

pub padded_more : (w n : ℕ) → 0 < w → hex_padded w n ≡ hex_padded (w - 1) (n / 16) ++ (digit (n % 16) ∷ [])
unfolding hex_padded
padded_more zero n h = absurd (omega arith)
padded_more (suc w) n h = let z : w ≡ suc w - 1 = omega arith in ap (λ (k : ℕ). hex_padded k (n / 16) ++ (digit (n % 16) ∷ [])) z

pub padded_none : (w n : ℕ) → w ≡ 0 → hex_padded w n ≡ []
unfolding hex_padded
padded_none w n e = rw e refl

-- ---- decimal

pub ten : (n : ℕ) → 10 ≤ n → n / 10 < n
ten n h = omega arith

pub decimal_one : (n : ℕ) → n < 10 → decimal n ≡ digit n ∷ []
decimal_one = one 10 ten

pub decimal_more : (n : ℕ) → 10 ≤ n → decimal n ≡ decimal (n / 10) ++ (digit (n % 10) ∷ [])
decimal_more = more 10 ten

-- ---- how many

pub count_one : (n : ℕ) → n < 10 → length (decimal n) ≡ 1
count_one = length_one 10 ten

pub count_more : (n : ℕ) → 10 ≤ n → length (decimal n) ≡ suc (length (decimal (n / 10)))
count_more = length_more 10 ten

-- two digits by one division
pub decimal_two : (n : ℕ) → 100 ≤ n → decimal n ≡ decimal (n / 100) ++ (digit (n / 10 % 10) ∷ digit (n % 10) ∷ [])
decimal_two n h =
    let z : n / 10 / 10 ≡ n / 100 = omega arith in
    decimal_more n (omega arith)
    ∙ ap (λ (l : List ℕ). l ++ (digit (n % 10) ∷ [])) (decimal_more (n / 10) (omega arith) ∙ ap (λ (m : ℕ). decimal m ++ (digit (n / 10 % 10) ∷ [])) z)
    ∙ append_assoc (decimal (n / 100)) (digit (n / 10 % 10) ∷ []) (digit (n % 10) ∷ [])

pub decimal_pair : (n : ℕ) → 10 ≤ n → n < 100 → decimal n ≡ digit (n / 10) ∷ digit (n % 10) ∷ []
decimal_pair n h l = decimal_more n h ∙ ap (λ (d : List ℕ). d ++ (digit (n % 10) ∷ [])) (decimal_one (n / 10) (omega arith))

pub padded_length : (w n : ℕ) → length (hex_padded w n) ≡ w
unfolding hex_padded
padded_length zero n = refl
padded_length (suc w) n =
    length-append (hex_padded w (n / 16)) (digit (n % 16) ∷ []) ∙ let e = padded_length w (n / 16) in omega (arith, e)

pub count_two : (n : ℕ) → 10 ≤ n → n < 100 → length (decimal n) ≡ 2
count_two n h l = count_more n h ∙ ap suc (count_one (n / 10) (omega arith))

pub two_more : (n : ℕ) {i : ℕ} → 100 ≤ n → length (decimal n) ≤ i → 2 ≤ i
two_more n h l = omega (arith, count_more n (omega arith), count_more (n / 10) (omega arith))

-- two digits by one division
pub padded_two : (w n : ℕ) → 1 < w → hex_padded w n ≡ hex_padded (w - 2) (n / 256) ++ (digit (n / 16 % 16) ∷ digit (n % 16) ∷ [])
padded_two w n h =
    let k : w - 1 - 1 ≡ w - 2 = omega arith in
    let z : n / 16 / 16 ≡ n / 256 = omega arith in
    padded_more w n (omega arith)
    ∙ ap (λ (l : List ℕ). l ++ (digit (n % 16) ∷ [])) (padded_more (w - 1) (n / 16) (omega arith)
    ∙ ap (λ (v : ℕ). hex_padded v (n / 16 / 16) ++ (digit (n / 16 % 16) ∷ [])) k
    ∙ ap (λ (m : ℕ). hex_padded (w - 2) m ++ (digit (n / 16 % 16) ∷ [])) z)
    ∙ append_assoc (hex_padded (w - 2) (n / 256)) (digit (n / 16 % 16) ∷ []) (digit (n % 16) ∷ [])

pub padded_four : (n : ℕ) → hex_padded 4 n ≡ (digit (n / 0x1000 % 16) ∷ digit (n / 0x100 % 16) ∷ []) ++ (digit (n / 16 % 16) ∷ digit (n % 16) ∷ [])
unfolding hex_padded
padded_four n =
    let y : n / 16 / 16 / 16 ≡ n / 0x1000 = omega arith in
    let z : n / 16 / 16 ≡ n / 0x100 = omega arith in
    rw (y, z) refl

-- eight digits by fours
pub eight : (n : ℕ) → 0x1000_0000 ≤ n → n < 0x1_0000_0000 → hexadecimal n ≡ hex_padded 4 (n / 0x1_0000) ++ hex_padded 4 n
unfolding hex_padded
eight n h l = let z : n / 16 / 16 / 16 / 16 ≡ n / 0x1_0000 = omega arith in between 7 n h l ∙ rw z refl

-- as many digits as there are are all of them
pub padded_whole : (n : ℕ) → n < 2 ^ 64 → hex_padded (length (hexadecimal n)) n ≡ hexadecimal n
unfolding hex_padded digits digits_from
padded_whole zero h = refl
padded_whole (suc n) h =
    let e = hex_count (suc n) (omega arith) h in
    let k = ap length e ∙ padded_length ((67 - count_leading_zeros 64 (suc n)) / 4) (suc n) in
    ap (λ (w : ℕ). hex_padded w (suc n)) k ∙ sym e
