-- A line from what was found out about its element: where it ends, and its text.
use mathlib.Core.Path.{◌≡◌, refl, sym, ap, ◌∙◌, subst}
use Prim.Native.Nat.{ℕ, ◌-◌, ◌≤◌, ◌<◌}
use mathlib.Core.Option.{Option, some, map}
use mathlib.Core.List.{List, []}
use lib.ListN.{length, take, drop}
use Rattle.bsii_format.specs.Reader.{ok, WellFormed, repeat}
use Rattle.bsii_format.specs.Numbers.{number}
use Rattle.bsii_format.specs.Strings.{id_parser}
use Rattle.bsii_format.specs.Types.{width, arity, Numeric, Kind, numbers, string, encoded_string, id}
use Rattle.bsii_format.specs.Prototypes.{EnumValue, ValuePrototype}
use Rattle.bsii_format.specs.Values.{Element, nums, ident, element_parser}
use Rattle.bsii_format.specs.Text.{element_text, field_line}
use Rattle.bsii_format.proofs.Readers.{map_ok}
use Rattle.bsii_format.proofs.Parsers.{element_exact}
use Rattle.bsii_string.specs.Answers.{end_of}
use Rattle.bsii_string.specs.declared.answers.Refusal.{Refusal}
use Rattle.std.specs.Prelude.{Ok, Err, None, Option as Answer}
use Rattle.bsii_string.proofs.Ends.{next≢fault, next_same}
use Rattle.bsii_value.proofs.ElementTexts.{own_bytes, NoEnum, any_list}
use Rattle.bsii_line.specs.Lines.{LineWritten}
use Rattle.bsii_skip.specs.Unchecked.{unchecked_id, unchecked_element}
use Rattle.bsii_skip.proofs.Values.{element_same}
use Rattle.bsii_skip.proofs.Skips.{numbers_same}
use Rattle.bsii_field.proofs.Bounds.{element_moves}
use Rattle.bsii_definition.specs.Pairs.{Describes}
use Rattle.bsii_definition.specs.declared.pairs.Definition.{Definition}
use Rattle.bsii_window.specs.Window.{Wrote}
use Rattle.bsii_window.proofs.Laws.{same}
use Rattle.bsii_write_value.specs.Lines.{name_of, lines, LinesAre, ElementWritten}
use Rattle.bsii_write_value.specs.declared.values.Lines.{Lines}

-- a contract at the kind that was told
pub kind_by : {s : List ℕ} {at : ℕ} {k j : Kind} {d : Definition} {label : List ℕ → List ℕ} {old : List ℕ} {to : ℕ} {r : Answer Lines} {new : List ℕ} → j ≡ k → ElementWritten s at j d label old to r new → ElementWritten s at k d label old to r new
kind_by {s} {at} {k} {j} {d} {label} {old} {to} {r} {new} e h = subst (λ (i : Kind). ElementWritten s at i d label old to r new) e h

module _ (label : List ℕ → List ℕ) (s : List ℕ) (at : ℕ) (k : Kind) (d : Definition) {old : List ℕ} {to : ℕ} where
  -- the element ends at `next`, and its text is x
  pub told_line : {next : ℕ} {x : List ℕ}
      → ((e : Element) (n : ℕ) → element_parser k at (drop at s) ≡ ok e n (drop n s) → (f : ValuePrototype) → Describes s d f → (next ≡ n) × (element_text f.enum_values e ≡ some x))
      → {r : ℕ} {new : List ℕ} → Wrote old to (field_line (label (name_of s d)) x) r new → ElementWritten s at k d label old to (lines next r) new
  told_line {next} {x} told {r} {new} w = record {
    writes = λ e n f g q.
        let y = told e n f g q in
        subst (λ (t : Option (List ℕ)). LinesAre old to (map (field_line (label g.name)) t) n (lines next r) new) (sym y.1)
        (y.0, subst (λ (z : List ℕ). Wrote old to (field_line (label z) x) r new) q.name w);
    size = same w;
  }

  -- bytes that run out were not accepted
  pub line_refused : {f : Refusal} → Err f ≡ end_of (unchecked_element k at (drop at s)) → ElementWritten s at k d label old to None old
  line_refused e = record { writes = λ x n f g h. next≢fault (sym (element_same k at (drop at s) f) ∙ sym e); size = refl }

-- ---- a line by an element's own bytes

-- kinds whose line is written by their own bytes: their text asks for no list
abbrev pub Own : Kind → Type 0
Own (numbers k) = NoEnum k
Own id = Unit {0}
Own string = ⊥
Own encoded_string = ⊥

listless : (k : Kind) → Own k → {e : Element} (raw : List ℕ) → WellFormed (element_parser k) e raw → (enums : List EnumValue)
    → (x : List ℕ) × (element_text [] e ≡ some x) × (element_text enums e ≡ some x)
unfolding element_parser element_text
listless (numbers k) h raw f enums =
    let p = map_ok (nums k) (repeat (arity k) (number (width k))) 0 raw f in
    let x = any_list k h enums p.0 in
    (x.0, ap (element_text []) (sym p.1) ∙ x.1, ap (element_text enums) (sym p.1) ∙ x.2)
listless id h raw f enums = let p = map_ok ident id_parser 0 raw f in (_, ap (element_text []) (sym p.1), ap (element_text enums) (sym p.1))
listless string h raw f enums = absurd h
listless encoded_string h raw f enums = absurd h

module _ (label : List ℕ → List ℕ) (s : List ℕ) (at : ℕ) (k : Kind) (d : Definition) {old : List ℕ} {to : ℕ} where
  pub own_line : Own k → {next : ℕ} → Ok next ≡ end_of (unchecked_element k at (drop at s)) → {r : ℕ} {new : List ℕ}
      → LineWritten (label (name_of s d)) (take (next - at) (drop at s)) k old to r new → ElementWritten s at k d label old to (lines next r) new
  own_line h {next} e {r} {new} w = record {
    writes = λ v n f g q.
        let behind : next ≡ n = next_same (e ∙ element_same k at (drop at s) f) in
        let own = subst (λ (i : ℕ). WellFormed (element_parser k) v (take (i - at) (drop at s))) (sym behind) (own_bytes (element_exact k) s at f) in
        let x = listless k h (take (next - at) (drop at s)) own g.enum_values in
        subst (λ (t : Option (List ℕ)). LinesAre old to (map (field_line (label g.name)) t) n (lines next r) new) (sym x.2)
        (behind, subst (λ (z : List ℕ). Wrote old to (field_line (label z) x.0) r new) q.name (w.writes v own x.0 x.1));
    size = w.size;
  }

-- ---- an id and numbers, by what the code asks for their ends

pub id_moves : (s : List ℕ) (at : ℕ) {next : ℕ} → Ok next ≡ end_of (unchecked_id at (drop at s)) → (at < next) × (next ≤ length s)
unfolding unchecked_element
id_moves s at e = element_moves id s at e

pub numeric_moves : (k : Numeric) (s : List ℕ) (at : ℕ) {next : ℕ} → Ok next ≡ end_of (element_parser (numbers k) at (drop at s)) → (at < next) × (next ≤ length s)
numeric_moves k s at e = element_moves (numbers k) s at (e ∙ numbers_same k at (drop at s))

module _ (label : List ℕ → List ℕ) (s : List ℕ) (at : ℕ) (d : Definition) {old : List ℕ} {to : ℕ} where
  pub id_refused : {f : Refusal} → Err f ≡ end_of (unchecked_id at (drop at s)) → ElementWritten s at id d label old to None old
  unfolding unchecked_element
  id_refused e = line_refused label s at id d e

  pub id_own : {next : ℕ} → Ok next ≡ end_of (unchecked_id at (drop at s)) → {r : ℕ} {new : List ℕ}
      → LineWritten (label (name_of s d)) (take (next - at) (drop at s)) id old to r new → ElementWritten s at id d label old to (lines next r) new
  unfolding unchecked_element
  id_own e w = own_line label s at id d tt e w

  pub numeric_refused : (k : Numeric) {f : Refusal} → Err f ≡ end_of (element_parser (numbers k) at (drop at s)) → ElementWritten s at (numbers k) d label old to None old
  numeric_refused k e = line_refused label s at (numbers k) d (e ∙ numbers_same k at (drop at s))

  pub numeric_own : (k : Numeric) → NoEnum k → {next : ℕ} → Ok next ≡ end_of (element_parser (numbers k) at (drop at s)) → {r : ℕ} {new : List ℕ}
      → LineWritten (label (name_of s d)) (take (next - at) (drop at s)) (numbers k) old to r new → ElementWritten s at (numbers k) d label old to (lines next r) new
  numeric_own k h e w = own_line label s at (numbers k) d h (e ∙ numbers_same k at (drop at s)) w
