-- The text of an accepted element that is numbers, by the numbers that stand in its bytes.
use Prim.Native.Nat.{ℕ}
use mathlib.Core.Path.{◌≡◌, sym, ap, ◌∙◌}
use mathlib.Core.Option.{some}
use mathlib.Core.List.{List, []}
use native.Mathlib.Omega.{arith}
use Rattle.bsii_format.specs.Reader.{ok, repeat}
use Rattle.bsii_format.specs.Numbers.{number}
use Rattle.bsii_format.specs.Types.{Numeric, enum, width, arity, numbers}
use Rattle.bsii_format.specs.Values.{Element, nums, element_parser}
use Rattle.bsii_format.specs.Text.{enum_string, numeric_text, element_text}
use Rattle.bsii_format.proofs.Readers.{map_ok}
use Rattle.bsii_string.specs.NumbersAt.{numbers_at}
use Rattle.bsii_string.proofs.NumbersAt.{numbers_are}

module _ (k : Numeric) (s : List ℕ) {e : Element} {n : ℕ} {t : List ℕ} (h : element_parser (numbers k) 0 s ≡ ok e n t) where
  numbers_text : numeric_text [] k (numbers_at (arity k) (width k) s 0) ≡ element_text [] e
  unfolding element_parser element_text
  numbers_text =
      let m = map_ok (nums k) (repeat (arity k) (number (width k))) 0 s h in
      ap (numeric_text [] k) (numbers_are (arity k) (width k) s 0 m.2) ∙ ap (element_text []) m.1

  -- a text that the numbers have
  pub same_text_law : {x y : List ℕ} → numeric_text [] k (numbers_at (arity k) (width k) s 0) ≡ some x → element_text [] e ≡ some y → x ≡ y
  same_text_law {x} {y} f g = let i : some x ≡ some y = sym f ∙ numbers_text ∙ g in cc

enum_none : (l : List ℕ) (x : List ℕ) {P : Type 0} → numeric_text [] enum l ≡ some x → P
unfolding numeric_text enum_string
enum_none l x e = let z : ◌≡◌ {A = ℕ} 0 1 = cc in absurd (omega arith)

-- without a list no enum has a text
pub no_text : (s : List ℕ) {e : Element} {n : ℕ} {t x : List ℕ} {P : Type 0} → element_parser (numbers enum) 0 s ≡ ok e n t → element_text [] e ≡ some x → P
no_text s {x = x} h f = enum_none (numbers_at (arity enum) (width enum) s 0) x (numbers_text enum s h ∙ f)
