-- A word's digits to base 38, the lowest first, and how many there are.
use Prim.Native.Nat.{ℕ, zero, suc, ◌+◌, ◌/◌, ◌%◌, ◌^◌, ◌≤◌, ◌<◌}
use mathlib.Core.Path.{◌≡◌, refl, sym, ap, ◌∙◌}
use mathlib.Core.Logic.{⊎_elim}
use mathlib.Core.Bool.{Bool, true, false, cond, true≢false}
use mathlib.Core.Option
use mathlib.Core.Option.{Option, none, some, map}
use mathlib.Core.List.{List, [], ◌∷◌}
use native.Mathlib.Nat.{pow-suc}
use native.Mathlib.Omega.{arith}
use lib.Dec.{eqb}
use lib.ListN.{length, get_or}
use borrow.Author.Tests.{ne_eqb}
use Rattle.bsii_format.specs.Strings.{char_encodings, digit_then, base38_from, base38, is_some, spelled, characters}
use Rattle.bsii_format.specs.Text.{or_empty, encoded_string_text}
use Rattle.bsii_format.proofs.Lists.{lt_or_le}
use Rattle.bsii_base38.specs.Pairs.{char_of}
use Rattle.bsii_base38.proofs.Rule.{char_marked}
use Rattle.bsii_text_length.specs.Words.{spelling_from, spelling, unmarked, encoded_text}

-- more fuel than the rest changes nothing
fuel : (f g n : ℕ) → n ≤ f → n ≤ g → spelling_from f n ≡ spelling_from g n
unfolding spelling_from
fuel zero zero n h k = refl
fuel zero (suc g) zero h k = refl
fuel zero (suc g) (suc n) h k = absurd (omega arith)
fuel (suc f) zero zero h k = refl
fuel (suc f) zero (suc n) h k = absurd (omega arith)
fuel (suc f) (suc g) zero h k = refl
fuel (suc f) (suc g) (suc n) h k = ap (λ (l : List ℕ). char_of (suc n % 38) ∷ l) (fuel f g (suc n / 38) (omega arith) (omega arith))

pub spelling_more : (n : ℕ) → 0 < n → spelling n ≡ char_of (n % 38) ∷ spelling (n / 38)
unfolding spelling spelling_from
spelling_more zero h = absurd (omega arith)
spelling_more (suc n) h = ap (λ (l : List ℕ). char_of (suc n % 38) ∷ l) (fuel n (suc n / 38) (suc n / 38) (omega arith) (omega arith))

pub spelling_none : (n : ℕ) → n ≤ 0 → spelling n ≡ []
unfolding spelling spelling_from
spelling_none zero h = refl
spelling_none (suc n) h = absurd (omega arith)

pub spelling_one : (n : ℕ) → 0 < n → n < 38 → spelling n ≡ char_of (n % 38) ∷ []
spelling_one n h l = spelling_more n h ∙ ap (λ (l : List ℕ). char_of (n % 38) ∷ l) (spelling_none (n / 38) (omega arith))

pub spelling_two : (n : ℕ) → 38 ≤ n → spelling n ≡ char_of (n % 38) ∷ char_of (n / 38 % 38) ∷ spelling (n / 1444)
spelling_two n h =
    let z : n / 38 / 38 ≡ n / 1444 = omega arith in
    spelling_more n (omega arith)
    ∙ ap (λ (l : List ℕ). char_of (n % 38) ∷ l) (spelling_more (n / 38) (omega arith) ∙ ap (λ (m : ℕ). char_of (n / 38 % 38) ∷ spelling m) z)

-- ---- how many

pub count_none : (n : ℕ) → n < 1 → length (spelling n) ≡ 0
count_none n h = ap length (spelling_none n (omega arith))

pub count_more : (n : ℕ) → 1 ≤ n → length (spelling n) ≡ suc (length (spelling (n / 38)))
count_more n h = ap length (spelling_more n h)

pub count_two : (n : ℕ) → 38 ≤ n → length (spelling n) ≡ 2 + length (spelling (n / 1444))
count_two n h = ap length (spelling_two n h) ∙ omega arith

pub between : (k n : ℕ) → 38 ^ k ≤ n → n < 38 ^ suc k → suc k ≡ length (spelling n)
between zero n h l = sym (count_more n (omega arith) ∙ ap suc (count_none (n / 38) (omega arith)))
between (suc k) n h l =
    sym (count_more n (omega (arith, pow-suc 38 k)) ∙ ap suc (sym (between k (n / 38) (omega (arith, pow-suc 38 k)) (omega (arith, pow-suc 38 (suc k))))))

most : (k n : ℕ) → n < 38 ^ k → length (spelling n) ≤ k
most zero n h = omega (arith, count_none n (omega arith))
most (suc k) n h =
    ⊎_elim
    (λ l. omega (arith, count_none n l))
    (λ l. omega (arith, count_more n l, most k (n / 38) (omega (arith, pow-suc 38 k))))
    (lt_or_le n 1)

pub at_most_thirteen : (n : ℕ) → n < 2 ^ 64 → length (spelling n) ≤ 13
at_most_thirteen n h = most 13 n (omega arith)

-- ---- accepted words

digit_marked : (d : ℕ) → d < 38 → {o : Option (List ℕ)} (l : List ℕ) → o ≡ unmarked l → digit_then d o ≡ unmarked (char_of d ∷ l)
unfolding digit_then unmarked char_of
digit_marked zero h l e = refl
digit_marked (suc d) h l e = let m : eqb (get_or char_encodings d 0) 128 ≡ false = char_marked (suc d) h ∙ ne_eqb (suc d) 0 (λ z. omega arith) in rw (m, e) refl

marked_from : (f n : ℕ) → base38_from f n ≡ unmarked (spelling_from f n)
unfolding base38_from spelling_from unmarked
marked_from zero n = refl
marked_from (suc f) zero = refl
marked_from (suc f) (suc n) = digit_marked (suc n % 38) (omega arith) (spelling_from f (suc n / 38)) (marked_from f (suc n / 38))

-- for every u64 what is stored says the definition's characters, or its fault
pub base38_spelling : (n : ℕ) → base38 n ≡ unmarked (spelling n)
unfolding base38 spelling
base38_spelling n = marked_from n n

-- bytes without a mark are as they were
unmarked_same : (l : List ℕ) → is_some (unmarked l) ≡ true → Option.get_or (unmarked l) [] ≡ l
unfolding unmarked is_some
unmarked_same [] h = refl
unmarked_same (x ∷ l) h = go (eqb x 128) (unmarked l) h (unmarked_same l)
  where
    go : (b : Bool) (o : Option (List ℕ)) → is_some (cond b none (map (λ (t : List ℕ). x ∷ t) o)) ≡ true → (is_some o ≡ true → Option.get_or o [] ≡ l)
        → Option.get_or (cond b none (map (λ (t : List ℕ). x ∷ t) o)) [] ≡ x ∷ l
    go true o h k = absurd (true≢false (sym h))
    go false none h k = absurd (true≢false (sym h))
    go false (some t) h k = ap (λ (t : List ℕ). x ∷ t) (k refl)

pub characters_spelling : (n : ℕ) → spelled n ≡ true → characters n ≡ spelling n
unfolding spelled characters
characters_spelling n h =
    ap (λ (o : Option (List ℕ)). Option.get_or o []) (base38_spelling n) ∙ unmarked_same (spelling n) (ap is_some (sym (base38_spelling n)) ∙ h)

or_empty_law : (n : ℕ) → or_empty (spelling n) ≡ encoded_text n
unfolding encoded_text or_empty spelling spelling_from
or_empty_law zero = refl
or_empty_law (suc n) = refl

pub encoded_spelling : (n : ℕ) → spelled n ≡ true → encoded_string_text n ≡ encoded_text n
unfolding encoded_string_text
encoded_spelling n h = ap or_empty (characters_spelling n h) ∙ or_empty_law n

pub encoded_none : (n : ℕ) → n ≡ 0 → encoded_text n ≡ encoded_text 0
encoded_none n e = ap encoded_text e

pub encoded_word : (n : ℕ) → 0 < n → encoded_text n ≡ spelling n
unfolding encoded_text
encoded_word zero h = absurd (omega arith)
encoded_word (suc n) h = refl
