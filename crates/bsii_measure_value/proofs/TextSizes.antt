-- A value that is no enum value has a text, of the length that `value_size` says, whatever the enum list.
use mathlib.Core.Path.{◌≡◌, refl, sym, ap, ◌∙◌, subst}
use Prim.Native.Nat.{ℕ, zero, suc, ◌+◌}
use native.Mathlib.Omega.{arith}
use mathlib.Core.Bool.{Bool, true, false, cond, ◌&&◌, ◌||◌}
use mathlib.Core.Logic.{⊎_elim}
use mathlib.Core.Option.{Option, none, some, map, get_or}
use mathlib.Core.List.{List, [], ◌∷◌, ◌++◌}
use lib.ListN.{length, length-append}
use lib.Dec.{T, eqb, eqb→eq}
use borrow.Author.Tests.{eqb-true, eqb-false}
use Rattle.bsii_format.specs.Reader.{ok, fail, ◌>>=◌, success, Consumed, consumed, repeat}
use Rattle.bsii_format.specs.Numbers.{number, le_u32}
use Rattle.bsii_format.specs.Strings.{str_parser, encoded_str_parser, id_parser}
use Rattle.bsii_format.specs.Types.{width, arity, Kind, numbers, string, encoded_string, id, Shape, one, many, Listed, placement_in, type_table, shape_in, shape_of}
use Rattle.bsii_format.specs.Values.{Element, nums, str, word, ident, Value, single, array, element_parser, shape_parser, value_parser}
use Rattle.bsii_format.specs.Prototypes.{EnumValue, ValuePrototype}
use Rattle.bsii_format.specs.Digits.{decimal}
use Rattle.bsii_format.specs.Text.{string_text, encoded_string_text, id_text, element_text, field_line, indexed, append, element_lines, value_text}
use Rattle.bsii_format.proofs.Readers.{after_ok, map_ok, ok_val, and_left, and_right, fault≢ok}
use Rattle.bsii_format.proofs.Lists.{bool_cases}
use Rattle.bsii_format.proofs.Versions.{versions_alike}
use Rattle.bsii_value.proofs.ElementTexts.{no_enum, any_list}
use Rattle.bsii_measure_string.specs.Measured.{element_size, line_size, row_size, value_size}

-- ---- only 0x37 is of enum values

abbrev no_enum_kind : Kind → Bool
no_enum_kind (numbers n) = no_enum n
no_enum_kind string = true
no_enum_kind encoded_string = true
no_enum_kind id = true

abbrev no_enum_shape : Shape → Bool
no_enum_shape (one k) = no_enum_kind k
no_enum_shape (many k) = no_enum_kind k

abbrev pub NoEnumKind : Kind → Type 0
NoEnumKind k = T (no_enum_kind k)

abbrev pub NoEnumShape : Shape → Type 0
NoEnumShape o = T (no_enum_shape o)

abbrev fits : List Listed → Bool
fits [] = true
fits (r ∷ l) = (eqb r.type_id 0x37 || no_enum_shape r.shape) && fits l

either : (a b : Bool) → T (a || b) → (T a → ⊥) → T b
either true b h k = absurd (k tt)
either false b h k = h

rows_fit : (l : List Listed) → T (fits l) → (t : ℕ) → (t ≡ 0x37 → ⊥) → {o : Shape} → shape_in l t ≡ some o → NoEnumShape o
unfolding shape_in
rows_fit [] a t h {o} e = let z : ◌≡◌ {A = ℕ} 0 1 = cc in absurd (omega arith)
rows_fit (r ∷ l) a t h {o} e = go (eqb t r.type_id) (λ i. eqb→eq t r.type_id i) (λ f. rows_fit l (and_right (eqb r.type_id 0x37 || no_enum_shape r.shape) (fits l) a) t h f) e
  where
    go : (b : Bool) → (T b → t ≡ r.type_id) → (shape_in l t ≡ some o → NoEnumShape o) → cond b (some r.shape) (shape_in l t) ≡ some o → NoEnumShape o
    go true f g e =
        let same : r.shape ≡ o = cc in
        subst NoEnumShape same (either (eqb r.type_id 0x37) (no_enum_shape r.shape) (and_left (eqb r.type_id 0x37 || no_enum_shape r.shape) (fits l) a) (λ i. h (f tt ∙ eqb→eq r.type_id 0x37 i)))
    go false f g e = g e

pub no_enum_law : (version t : ℕ) → (t ≡ 0x37 → ⊥) → {o : Shape} → shape_of version t ≡ some o → NoEnumShape o
no_enum_law version t h {o} e = ⊎_elim (λ v. one_is (eqb-true version 1 v)) (λ v. other_is (eqb-false version 1 v)) (bool_cases (eqb version 1))
  where
    first : T (fits (type_table 1))
    first = unfold type_table placement_in in tt

    others : T (fits (type_table 2))
    others = unfold type_table placement_in in tt

    one_is : version ≡ 1 → NoEnumShape o
    one_is v = unfold shape_of in rows_fit (type_table 1) first t h (ap (λ n. shape_in (type_table n) t) (sym v) ∙ e)

    other_is : (version ≡ 1 → ⊥) → NoEnumShape o
    other_is v = unfold shape_of in rows_fit (type_table 2) others t h (ap (λ (f : ℕ → Option Shape). f t) (versions_alike 2 version (λ z. omega arith) v) ∙ e)

-- ---- one element

abbrev pub Sized : List EnumValue → Element → Type 0
Sized enums e = (x : List ℕ) × (element_text enums e ≡ some x) × (element_size e ≡ length x)

pub element_text_law : (k : Kind) → NoEnumKind k → (enums : List EnumValue) (at : ℕ) (s : List ℕ) {e : Element} {n : ℕ} {r : List ℕ} → element_parser k at s ≡ ok e n r → Sized enums e
unfolding element_parser element_text element_size
element_text_law (numbers k) h enums at s q =
    let p = map_ok (nums k) (repeat (arity k) (number (width k))) at s q in
    let x = any_list k h enums p.0 in
    subst (Sized enums) p.1 (x.0, x.2, ap (λ o. length (get_or o [])) x.1)
element_text_law string h enums at s q = let p = map_ok str str_parser at s q in subst (Sized enums) p.1 (string_text p.0, refl, refl)
element_text_law encoded_string h enums at s q = let p = map_ok word encoded_str_parser at s q in subst (Sized enums) p.1 (encoded_string_text p.0, refl, refl)
element_text_law id h enums at s q = let p = map_ok ident id_parser at s q in subst (Sized enums) p.1 (id_text p.0, refl, refl)

consumed_text : (k : Kind) → NoEnumKind k → (enums : List EnumValue) (at : ℕ) (s : List ℕ) {e : Consumed Element} {n : ℕ} {r : List ℕ} → consumed (element_parser k) at s ≡ ok e n r → Sized enums e.value
unfolding consumed
consumed_text k h enums at s q =
    let p = after_ok (element_parser k at s) _ q in
    subst (λ (e : Consumed Element). Sized enums e.value) (ok_val p.4) (element_text_law k h enums at s p.3)

-- ---- lines

pub line_size_law : (name v : List ℕ) → length (field_line name v) ≡ length name + 5 + length v
unfolding field_line
line_size_law name v = simp length-append (omega arith)

indexed_size : (name : List ℕ) (i : ℕ) → length (indexed name i) ≡ length name + length (decimal i) + 2
unfolding indexed
indexed_size name i = simp length-append (omega arith)

abbrev Lines : List ℕ → List EnumValue → ℕ → List (Consumed Element) → Type 0
Lines name enums i l = (x : List ℕ) × (element_lines name enums i l ≡ some x) × (length x ≡ row_size (line_size (length name)) i l)

lines_cons : (name : List ℕ) (enums : List EnumValue) (i : ℕ) (e : Consumed Element) (l : List (Consumed Element)) → Sized enums e.value → Lines name enums (suc i) l → Lines name enums i (e ∷ l)
unfolding element_lines append row_size line_size
lines_cons name enums i e l a b = (
  field_line (indexed name i) a.0 ++ b.0,
  ap (λ o. append (map (field_line (indexed name i)) o) (element_lines name enums (suc i) l)) a.1 ∙ ap (append (some (field_line (indexed name i) a.0))) b.1,
  rw length-append (omega (arith, line_size_law (indexed name i) a.0, indexed_size name i, a.2, b.2)),
)

lines_text : (k : Kind) → NoEnumKind k → (name : List ℕ) (enums : List EnumValue) (c : ℕ) (i at : ℕ) (s : List ℕ) {l : List (Consumed Element)} {n : ℕ} {r : List ℕ}
    → repeat c (consumed (element_parser k)) at s ≡ ok l n r → Lines name enums i l
unfolding repeat success ◌>>=◌ element_lines row_size
lines_text k h name enums zero i at s q = subst (Lines name enums i) (ok_val q) ([], refl, refl)
lines_text k h name enums (suc c) i at s q =
    let p = after_ok (consumed (element_parser k) at s) _ q in
    let u = after_ok (repeat c (consumed (element_parser k)) p.1 p.2) _ p.4 in
    subst (Lines name enums i) (ok_val u.4)
    (lines_cons name enums i p.0 u.0 (consumed_text k h enums at s p.3) (lines_text k h name enums c (suc i) p.1 p.2 u.3))

-- ---- values

pub record Texted (d : ValuePrototype) (v : Value) : Type 0 where
  pub text : List ℕ
  pub is : value_text d v ≡ some text
  pub size : length text ≡ value_size (length d.name) v

shape_text : (o : Shape) → NoEnumShape o → (d : ValuePrototype) (at : ℕ) (s : List ℕ) {v : Value} {n : ℕ} {r : List ℕ} → shape_parser (some o) at s ≡ ok v n r → Texted d v
unfolding shape_parser value_text value_size append
shape_text (one k) h d at s q =
    let p = map_ok single (consumed (element_parser k)) at s q in
    let a = consumed_text k h d.enum_values at s p.2 in
    subst (Texted d) p.1 (record {
      text = field_line d.name a.0;
      is = ap (map (field_line d.name)) a.1;
      size = omega (arith, line_size_law d.name a.0, a.2);
    })
shape_text (many k) h d at s q =
    let p = map_ok array (le_u32 >>= (λ n. repeat n (consumed (element_parser k)))) at s q in
    let u = bound p.2 in
    let b = lines_text k h d.name d.enum_values u.0 0 u.1 u.2 u.3 in
    subst (Texted d) p.1 (record {
      text = field_line d.name (decimal (length p.0)) ++ b.0;
      is = ap (append (some (field_line d.name (decimal (length p.0))))) b.1;
      size = rw length-append (omega (arith, line_size_law d.name (decimal (length p.0)), b.2));
    })
  where
    bound : {l : List (Consumed Element)} {n : ℕ} {r : List ℕ} → (le_u32 >>= (λ n. repeat n (consumed (element_parser k)))) at s ≡ ok l n r
        → (c i : ℕ) × (t : List ℕ) × (repeat c (consumed (element_parser k)) i t ≡ ok l n r)
    bound e = unfold ◌>>=◌ in let p = after_ok (le_u32 at s) _ e in (p.0, p.1, p.2, p.4)

pub value_text_law : (version t : ℕ) → (t ≡ 0x37 → ⊥) → (d : ValuePrototype) (at : ℕ) (s : List ℕ) {v : Value} {n : ℕ} {r : List ℕ} → value_parser version t at s ≡ ok v n r → Texted d v
unfolding value_parser
value_text_law version t other d at s {v} {n} {r} e = go (shape_of version t) refl e
  where
    go : (o : Option Shape) → shape_of version t ≡ o → shape_parser o at s ≡ ok v n r → Texted d v
    go none h e = unfold shape_parser fail in fault≢ok e
    go (some o) h e = shape_text o (no_enum_law version t other h) d at s e
