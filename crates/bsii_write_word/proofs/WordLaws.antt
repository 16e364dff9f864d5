-- Stores that are put from an array, and characters that are stored one after the other.
use Prim.Native.Nat.{ℕ, suc, ◌+◌, ◌/◌, ◌%◌, ◌≤◌, ◌<◌}
use mathlib.Core.Path.{◌≡◌, refl, sym, ap, ◌∙◌}
use mathlib.Core.List.{List, []}
use native.Mathlib.Nat.{add-zero}
use native.Mathlib.Omega.{arith}
use lib.ListN.{length, take, set}
use lib.Seq.{sets}
use Rattle.bsii_base38.specs.Pairs.{char_of, pair_of}
use Rattle.bsii_base38.proofs.Rule.{first_of, second_of, lower_digit, upper_digit}
use Rattle.bsii_text_length.specs.Words.{spelling}
use Rattle.bsii_text_length.proofs.WordLaws.{spelling_one, spelling_two, count_two}
use Rattle.bsii_window.specs.Stored.{Stored}
use Rattle.bsii_window.specs.Window.{Wrote}
use Rattle.bsii_window.proofs.Laws.{being, stored}

-- a text that was stored at the start of an array, and is put from there
pub put_stored : {a b old new : List ℕ} {r at e : ℕ} {x : List ℕ} → Stored a 0 x r b → r ≤ length a → Wrote old at (take r b) e new → Wrote old at x e new
put_stored {a} {r = r} {x = x} f h = being (ap (take r) f.output ∙ stored a x r refl (omega (arith, f.next)) h)

-- what a loop has yet to store: with it the whole text is stored
abbrev pub Rest : List ℕ → ℕ → List ℕ → List ℕ → ℕ → List ℕ → Type 0
Rest out i rest old to text = (r : ℕ) (new : List ℕ) → Stored out i rest r new → Stored old to text r new

pub store_none : {out : List ℕ} {i : ℕ} {x : List ℕ} → x ≡ [] → Stored out i x i out
store_none {i = i} e = rw e (record { next = sym (add-zero i); output = refl })

-- the table's pair of a word's lowest two digits
module _ (out : List ℕ) (i n : ℕ) {m p : ℕ} (a : m ≡ n % 1444) (b : p ≡ pair_of m) where
  lowest : {c : ℕ} → c ≡ p % 256 → c ≡ char_of (n % 38)
  lowest e = e ∙ ap (λ (q : ℕ). q % 256) b ∙ first_of m (omega arith) ∙ ap char_of (lower_digit m n a)

  above : {d : ℕ} → d ≡ p / 256 → d ≡ char_of (n / 38 % 38)
  above e = e ∙ ap (λ (q : ℕ). q / 256) b ∙ second_of m (omega arith) ∙ ap char_of (upper_digit m n a)

  pub store_one : {c : ℕ} → c ≡ p % 256 → 0 < n → n < 38 → Stored out i (spelling n) (i + 1) (set out i c)
  store_one e h l = rw (spelling_one n h l, lowest e) (record { next = refl; output = refl })

  pub store_two : {c d r : ℕ} {new : List ℕ} → c ≡ p % 256 → d ≡ p / 256 → 38 ≤ n
      → Stored (set (set out i c) (i + 1) d) (i + 2) (spelling (n / 1444)) r new → Stored out i (spelling n) r new
  store_two {c} {d} {r} {new} e f h w =
      let y : i + 1 ≡ suc i = omega arith in
      let z : i + 2 ≡ suc (suc i) = omega arith in
      record {
        next = omega (arith, w.next, count_two n h);
        output = w.output ∙ rw (y, z, lowest e, above f) (ap (sets out i) (sym (spelling_two n h)));
      }
