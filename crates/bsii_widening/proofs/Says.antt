-- A value has a text, unless it is an enum value outside its list: by cases on its kind.
use mathlib.Core.Path.{◌≡◌, refl, ap, ap₂}
use Prim.Native.Nat.{ℕ, suc}
use mathlib.Core.Option.{Option, none, some, map}
use mathlib.Core.List.{List, [], ◌∷◌, ◌++◌}
use lib.ListN.{length, get_or}
use lib.Dec.{T}
use Rattle.bsii_format.specs.Reader.{Consumed}
use Rattle.bsii_format.specs.Strings.{is_some}
use Rattle.bsii_format.specs.Types.{Numeric, float, float_vec2, float_vec3, float_vec4, float_vec7, float_vec8, int32, int32_vec3, uint32, uint16, int64, uint64, bool, enum}
use Rattle.bsii_format.specs.Values.{Element, nums, str, word, ident, Value, single, array}
use Rattle.bsii_format.specs.Prototypes.{EnumValue, ValuePrototype}
use Rattle.bsii_format.specs.Digits.{decimal}
use Rattle.bsii_format.specs.Text.{string_text, enum_string, numeric_text, element_text, field_line, append, element_lines, value_text}
use Rattle.bsii_widening.specs.Insertions.{numeric_listed, element_listed, ElementsListed, EnumListed}

abbrev pub Some : {A : Type 0} → Option A → Type 0
Some {A} o = (a : A) × (o ≡ some a)

-- what the proof of widening uses of a text: it never looks into it
abbrev pub HasText : (ValuePrototype → Value → Option (List ℕ)) → Type 0
HasText text = (d : ValuePrototype) (v : Value) → EnumListed d v → Some (text d v)

is_some_law : {A : Type 0} (o : Option A) → T (is_some o) → Some o
unfolding is_some
is_some_law none h = absurd h
is_some_law (some a) h = (a, refl)

some_map : {A B : Type 0} (f : A → B) (o : Option A) → Some o → Some (map f o)
some_map f o h = (f h.0, ap (map f) h.1)

some_append : (a b : Option (List ℕ)) → Some a → Some b → Some (append a b)
unfolding append
some_append a b h k = (h.0 ++ k.0, ap₂ append h.1 k.1)

numeric_says : (enums : List EnumValue) (k : Numeric) (l : List ℕ) → T (numeric_listed enums k l) → Some (numeric_text enums k l)
unfolding numeric_text numeric_listed
numeric_says enums enum l h = some_map string_text (enum_string (get_or l 0 0) enums) (is_some_law (enum_string (get_or l 0 0) enums) h)
numeric_says enums float l h = (_, refl)
numeric_says enums float_vec2 l h = (_, refl)
numeric_says enums float_vec3 l h = (_, refl)
numeric_says enums float_vec4 l h = (_, refl)
numeric_says enums float_vec7 l h = (_, refl)
numeric_says enums float_vec8 l h = (_, refl)
numeric_says enums int32 l h = (_, refl)
numeric_says enums int32_vec3 l h = (_, refl)
numeric_says enums uint32 l h = (_, refl)
numeric_says enums uint16 l h = (_, refl)
numeric_says enums int64 l h = (_, refl)
numeric_says enums uint64 l h = (_, refl)
numeric_says enums bool l h = (_, refl)

element_says : (enums : List EnumValue) (e : Element) → T (element_listed enums e) → Some (element_text enums e)
unfolding element_text element_listed
element_says enums (nums k l) h = numeric_says enums k l h
element_says enums (str s) h = (_, refl)
element_says enums (word n) h = (_, refl)
element_says enums (ident i) h = (_, refl)

elements_say : (name : List ℕ) (enums : List EnumValue) (i : ℕ) (l : List (Consumed Element)) → ElementsListed enums l → Some (element_lines name enums i l)
unfolding element_lines
elements_say name enums i [] h = ([], refl)
elements_say name enums i (e ∷ l) h =
    some_append _ (element_lines name enums (suc i) l) (some_map _ (element_text enums e.value) (element_says enums e.value h.0)) (elements_say name enums (suc i) l h.1)

pub value_says : HasText value_text
unfolding value_text
value_says d (single e) h = some_map (field_line d.name) (element_text d.enum_values e.value) (element_says d.enum_values e.value h)
value_says d (array l) h =
    some_append (some (field_line d.name (decimal (length l)))) (element_lines d.name d.enum_values 0 l) (_, refl) (elements_say d.name d.enum_values 0 l h)
