-- The tests of a byte, and a string's text by them.
use Prim.Native.Nat.{ℕ, ◌≤◌, ◌<◌}
use mathlib.Core.Path.{◌≡◌, refl, ap}
use mathlib.Core.Bool.{Bool, true, false, cond, ◌&&◌, ◌||◌}
use mathlib.Core.List.{List, [], ◌∷◌, ◌++◌}
use native.Mathlib.Omega.{arith}
use lib.ListN.{length, drop, drop_of_length-le}
use lib.Dec.{eqb, leb}
use borrow.Author.Tests.{le-leb, lt-leb}
use Rattle.bsii_format.specs.Ascii.{ascii}
use Rattle.bsii_format.specs.Utf8.{◌to◌, within}
use Rattle.bsii_format.specs.Text.{is_bare, all_bare, escaped, string_text}

-- ---- ranges

pub inside : (a b x : ℕ) → a ≤ x → x ≤ b → within (a to b) x ≡ true
unfolding within
inside a b x h k = simp (le-leb a x h, le-leb x b k)

pub before : (a b x : ℕ) → x < a → within (a to b) x ≡ false
unfolding within
before a b x h = simp (lt-leb a x h)

neither : (t : Bool) → t && false ≡ false
neither true = refl
neither false = refl

pub past : (a b x : ℕ) → b < x → within (a to b) x ≡ false
unfolding within
past a b x h = rw (lt-leb x b h) (neither (leb a x))

pub bare : {p q r s : Bool} (x : ℕ)
    → within (0x30 to 0x39) x ≡ p → within (0x41 to 0x5a) x ≡ q → eqb x 0x5f ≡ r → within (0x61 to 0x7a) x ≡ s → is_bare x ≡ p || q || r || s
unfolding is_bare
bare x a b c d = rw (a, b, c, d) refl

-- ---- strings

pub empty_text : (s : List ℕ) → length s ≡ 0 → string_text s ≡ ascii "\"\""
unfolding string_text
empty_text [] h = refl
empty_text (x ∷ s) h = absurd (omega arith)

pub bare_text : (s : List ℕ) → 0 < length s → all_bare s ≡ true → string_text s ≡ s
unfolding string_text
bare_text [] h e = absurd (omega arith)
bare_text (x ∷ s) h e = ap (λ (b : Bool). cond b (x ∷ s) (ascii "\"" ++ escaped (x ∷ s) ++ ascii "\"")) e

pub quoted_text : (s : List ℕ) → 0 < length s → all_bare s ≡ false → string_text s ≡ ascii "\"" ++ escaped s ++ ascii "\""
unfolding string_text
quoted_text [] h e = absurd (omega arith)
quoted_text (x ∷ s) h e = ap (λ (b : Bool). cond b (x ∷ s) (ascii "\"" ++ escaped (x ∷ s) ++ ascii "\"")) e

pub escaped_none : (s : List ℕ) (i : ℕ) → length s ≤ i → escaped (drop i s) ≡ []
unfolding escaped
escaped_none s i h = ap escaped (drop_of_length-le s {i = i} h)
