-- The lines of strings, words and enum values, whose text is made of what was read: the bytes behind a length, a word's low 63 bits, a string of a list.
use mathlib.Core.Path.{◌≡◌, refl, sym, ap, ◌∙◌, subst}
use Prim.Native.Nat.{ℕ, ◌+◌, ◌-◌, ◌≤◌}
use native.Mathlib.Omega.{arith}
use mathlib.Core.Bool.{true}
use mathlib.Core.Option.{Option, some, map}
use mathlib.Core.List.{List}
use lib.ListN.{length, take, drop, get_or, length-drop}
use Rattle.bsii_format.specs.Replies.{Fault}
use Rattle.bsii_format.specs.Reader.{ok, fault, repeat, verify, ◌<$>◌, success}
use Rattle.bsii_format.specs.Numbers.{number, le_u64}
use Rattle.bsii_format.specs.Strings.{str_parser, spelled, low63, encoded_str_parser}
use Rattle.bsii_format.specs.Types.{enum, width, arity, numbers, string, encoded_string}
use Rattle.bsii_format.specs.Values.{Element, nums, str, word, element_parser}
use Rattle.bsii_format.specs.Prototypes.{EnumValue}
use Rattle.bsii_format.specs.Text.{string_text, enum_string, numeric_text, element_text, field_line}
use Rattle.bsii_format.proofs.Readers.{fault≢ok, map_ok, ok_val, ok_at, after_ok, cond_ok, is_true}
use Rattle.bsii_string.specs.Answers.{end_of, unchecked_str}
use Rattle.bsii_string.specs.declared.answers.Refusal.{Refusal}
use Rattle.bsii_string.specs.declared.answers.Text.{Text}
use Rattle.std.specs.Prelude.{Ok, Err, Some, None, Option as Answer}
use Rattle.bsii_string.proofs.Ends.{next≢fault, next_same, next_ok}
use Rattle.bsii_string.proofs.Unchecked.{unchecked_str_exact}
use Rattle.bsii_string.proofs.NumbersAt.{split}
use Rattle.bsii_prototype.specs.Strings.{checked, unchecked}
use Rattle.bsii_prototype.proofs.Names.{number_front, named}
use Rattle.bsii_skip.proofs.Values.{str_same}
use Rattle.bsii_definition.specs.Enums.{StringInside, StringOf}
use Rattle.bsii_definition.specs.declared.pairs.Definition.{Definition}
use Rattle.bsii_window.specs.Window.{Wrote}
use Rattle.bsii_text_length.specs.Words.{encoded_text}
use Rattle.bsii_text_length.proofs.WordLaws.{encoded_spelling}
use Rattle.bsii_write_value.specs.Lines.{name_of, lines, LinesAre, EnumInside, EnumTextOf, ElementWritten}
use Rattle.bsii_write_value.proofs.LineLaws.{told_line}

-- ---- what was accepted

-- a number that ends at m
abbrev pub Number : List ℕ → ℕ → ℕ → ℕ → ℕ → Type 0
Number s w at n m = (t : List ℕ) × (number w at (drop at s) ≡ ok n m t)

module _ (s : List ℕ) (at : ℕ) where
  -- an enum value is one number
  enum_is : {e : Element} {m : ℕ} → element_parser (numbers enum) at (drop at s) ≡ ok e m (drop m s)
      → (n : ℕ) × Number s 4 at n m × ((enums : List EnumValue) → element_text enums e ≡ map string_text (enum_string n enums))
  unfolding element_parser element_text numeric_text arity width repeat success
  enum_is f =
      let p = map_ok (nums enum) (repeat (arity enum) (number (width enum))) at (drop at s) f in
      let q = split 0 (number 4) at (drop at s) p.2 in (
        q.first,
        (q.rest, q.front ∙ ap (λ (i : ℕ). ok q.first i q.rest) (ok_at q.back)),
        λ enums.
            ap (element_text enums) (sym p.1)
            ∙ ap (λ (n : ℕ). map string_text (enum_string n enums)) (ap (λ (l : List ℕ). get_or l 0 0) (sym q.whole)),
      )

  -- a word is the low 63 bits of a number, which are spelled
  word_is : {e : Element} {m : ℕ} → element_parser encoded_string at (drop at s) ≡ ok e m (drop m s) → (n : ℕ) × Number s 8 at n m × (word (low63 n) ≡ e) × (spelled (low63 n) ≡ true)
  unfolding element_parser encoded_str_parser verify
  word_is f =
      let p = map_ok word encoded_str_parser at (drop at s) f in
      let q = after_ok ((low63 <$> le_u64) at (drop at s)) _ p.2 in
      let v = cond_ok (spelled q.0) (ok q.0 q.1 q.2) _ q.4 in
      let u = map_ok low63 le_u64 at (drop at s) q.3 in (
        u.0,
        (q.2, u.2 ∙ ap (λ (i : ℕ). ok u.0 i q.2) (ok_at v.1)),
        ap word (u.1 ∙ ok_val v.1) ∙ p.1,
        ap spelled u.1 ∙ is_true (spelled q.0) v.0,
      )

  -- a string's bytes stand behind its length
  string_is_law : {e : Element} {m : ℕ} → element_parser string at (drop at s) ≡ ok e m (drop m s)
      → (end_of (unchecked_str at (drop at s)) ≡ Ok m) × (str (take (m - (at + 4)) (drop (at + 4) s)) ≡ e)
  unfolding element_parser
  string_is_law f =
      let p = map_ok str str_parser at (drop at s) f in
      (str_same at (drop at s) p.2, ap str (sym (named checked s at p.2).place) ∙ p.1)

-- where an unchecked string ends, the four bytes of its length and the string are there
pub string_room : (s : List ℕ) (at : ℕ) {next : ℕ} → Ok next ≡ end_of (unchecked_str at (drop at s)) → (at + 4 ≤ next) × (next ≤ length s)
string_room s at e = let x = named unchecked s at (next_ok unchecked_str_exact s at e).1 in (omega (arith, x.end), x.inside)

-- ---- the string of an enum value

module _ (s : List ℕ) (at : ℕ) (d : Definition) where
  pub enum_unread : {x : Fault} → fault x ≡ number 4 at (drop at s) → EnumTextOf s at d None
  enum_unread short = record { is = λ e m f g q. fault≢ok (short ∙ (enum_is s at f).1.1); inside = tt }

  pub enum_read : {n next : ℕ} → ok n next (drop next s) ≡ number 4 at (drop at s) → {x : Answer Text} → StringOf s d.name_end d.type_id n x → EnumTextOf s at d x
  enum_read {n} {next} read {x} h = record {
    is = λ e m f g q.
        let y = enum_is s at f in (
          sym place.0 ∙ ok_at (read ∙ y.1.1),
          y.2 g.enum_values
              ∙ ap (λ (i : ℕ). map string_text (enum_string i g.enum_values)) (sym (ok_val (read ∙ y.1.1)))
              ∙ ap (map string_text) (sym (h.is g.enum_values q.end (drop q.end s) q.enums)),
        );
    inside = both x h.inside;
  }
    where
      place : (next ≡ at + 4) × (next ≤ length s)
      place =
          let x = (number_front 4 at (drop at s) (sym read)).1 in
          let room : 4 ≤ length s - at = rw length-drop at x.whole in
          (x.next, omega (arith, x.next))

      both : (x : Answer Text) → StringInside s x → EnumInside s at x
      both (Some t) i = (i.0, i.1, omega (arith, place.0, place.1))
      both None i = tt

-- ---- their lines

module _ (label : List ℕ → List ℕ) (s : List ℕ) (at : ℕ) (d : Definition) {old : List ℕ} {to : ℕ} where
  pub string_line : {next : ℕ} → Ok next ≡ end_of (unchecked_str at (drop at s)) → {r : ℕ} {new : List ℕ}
      → Wrote old to (field_line (label (name_of s d)) (string_text (take (next - (at + 4)) (drop (at + 4) s)))) r new → ElementWritten s at string d label old to (lines next r) new
  unfolding element_text
  string_line end w =
      told_line label s at string d
      (λ e m f g q.
      let x = string_is_law s at f in
      let behind = next_same (end ∙ x.0) in
      (behind, ap (element_text g.enum_values) (sym x.1) ∙ ap (λ (n : ℕ). some (string_text (take (n - (at + 4)) (drop (at + 4) s)))) (sym behind)))
      w

  pub string_short : {x : Refusal} → Err x ≡ end_of (unchecked_str at (drop at s)) → ElementWritten s at string d label old to None old
  string_short end = record { writes = λ e m f g q. next≢fault (sym (string_is_law s at f).0 ∙ sym end); size = refl }

  pub word_short : {x : Fault} → fault x ≡ number 8 at (drop at s) → ElementWritten s at encoded_string d label old to None old
  word_short short = record { writes = λ e m f g q. fault≢ok (short ∙ (word_is s at f).1.1); size = refl }

  pub word_line : {n next : ℕ} → ok n next (drop next s) ≡ number 8 at (drop at s) → {r : ℕ} {new : List ℕ} → Wrote old to (field_line (label (name_of s d)) (encoded_text (low63 n))) r new
      → ElementWritten s at encoded_string d label old to (lines next r) new
  unfolding element_text
  word_line {n} read w =
      told_line label s at encoded_string d
      (λ e m f g q.
      let x = word_is s at f in
      let same : x.0 ≡ n = sym (ok_val (read ∙ x.1.1)) in
      (ok_at (read ∙ x.1.1), ap (element_text g.enum_values) (sym x.2) ∙ ap some (encoded_spelling (low63 x.0) x.3 ∙ ap (λ (i : ℕ). encoded_text (low63 i)) same)))
      w

  pub enum_absent : EnumTextOf s at d None → ElementWritten s at (numbers enum) d label old to None old
  enum_absent h = record {
    writes = λ e m f g q. subst (λ (o : Option (List ℕ)). LinesAre old to (map (field_line (label g.name)) o) m None old) (sym (h.is e m f g q).1) tt;
    size = refl;
  }

  pub enum_line : {t : Text} → EnumTextOf s at d (Some t) → {r : ℕ} {new : List ℕ}
      → Wrote old to (field_line (label (name_of s d)) (string_text (take (t.next - t.start) (drop t.start s)))) r new → ElementWritten s at (numbers enum) d label old to (lines (at + 4) r) new
  enum_line h w = told_line label s at (numbers enum) d h.is w
