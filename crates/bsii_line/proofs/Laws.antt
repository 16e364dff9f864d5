-- A line from its parts, for each kind.
use mathlib.Core.Path.{◌≡◌, ap, ◌∙◌, subst}
use Prim.Native.Nat.{ℕ, ◌+◌, ◌≤◌, ◌<◌}
use mathlib.Core.Option.{some}
use mathlib.Core.List.{List, [], ◌∷◌, ◌++◌, append_assoc}
use lib.ListN.{length}
use Rattle.bsii_format.specs.Ascii.{ascii}
use Rattle.bsii_format.specs.Reader.{ok, WellFormed}
use Rattle.bsii_format.specs.Strings.{Id, id_parser}
use Rattle.bsii_format.specs.Types.{Numeric, numbers, id}
use Rattle.bsii_format.specs.Values.{Element, ident, element_parser}
use Rattle.bsii_format.specs.Text.{element_text, id_text, field_line}
use Rattle.bsii_format.proofs.Readers.{map_ok}
use Rattle.bsii_window.specs.Window.{Wrote}
use Rattle.bsii_line.specs.Lines.{LineWritten}
use Rattle.bsii_window.specs.Stored.{Stored}
use Rattle.bsii_window.specs.Overlaps.{OverlapOf}
use Rattle.bsii_window.specs.declared.window.Overlap.{Overlap}
use Rattle.bsii_window.specs.declared.window.Overlap.TheVariants as place
use Rattle.bsii_window.proofs.Laws.{then, being}
use Rattle.bsii_window.proofs.Stores.{stored_then, stored_inside}

pub opening : (label v : List ℕ) → (ascii "  " ++ label ++ ascii ": ") ++ (v ++ ascii "\n") ≡ field_line label v
unfolding field_line
opening label v = simp append_assoc

-- stored, where the longest line lies inside
pub line_inside : {old a b new : List ℕ} {at start p q r : ℕ} (n : ℕ) (label x : List ℕ) {o : Overlap} → o ≡ place.Inside start → OverlapOf (length old) at n o
    → Stored old start (ascii "  " ++ label ++ ascii ": ") p a → Stored a p x q b → Stored b q (10 ∷ []) r new → r ≤ start + n → length old < 0x8000_0000_0000_0000
    → Wrote old at (field_line label x) (r + 0x8000_0000_0000_0000) new
line_inside n label x e h f g k l s = being (opening label x) (stored_inside n e h (stored_then f (stored_then g k)) l s)

-- piece by piece
pub line_pieces : {old a b new : List ℕ} {at p q r : ℕ} (label x : List ℕ) → Wrote old at (ascii "  " ++ label ++ ascii ": ") p a → Wrote a p x q b → Wrote b q (10 ∷ []) r new
    → Wrote old at (field_line label x) r new
line_pieces label x f g k = being (opening label x) (then f (then g k))

-- ---- the text of an accepted element, by its own bytes

module _ {label raw old new : List ℕ} {to r : ℕ} where
  pub line_numbers : {k : Numeric} → ((e : Element) (n : ℕ) (t : List ℕ) → element_parser (numbers k) 0 raw ≡ ok e n t → (x : List ℕ) → element_text [] e ≡ some x → Wrote old to (field_line label x) r new)
      → length new ≡ length old → LineWritten label raw (numbers k) old to r new
  line_numbers f l = record { writes = λ e h. f e (length raw) [] h; size = l }

  pub line_id : ((i : Id) → WellFormed id_parser i raw → Wrote old to (field_line label (id_text i)) r new) → length new ≡ length old → LineWritten label raw id old to r new
  unfolding element_parser element_text
  line_id f l = record {
    writes = λ e h x g.
        let p = map_ok ident id_parser 0 raw h in
        let z : some (id_text p.0) ≡ some x = ap (element_text []) p.1 ∙ g in
        subst (λ (x : List ℕ). Wrote old to (field_line label x) r new) (let i : id_text p.0 ≡ x = cc in i) (f p.0 p.2);
    size = l;
  }
