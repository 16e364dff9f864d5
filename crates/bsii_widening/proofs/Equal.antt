-- Tests of equality for the parts of a file, each with its law both ways. Parts are tested as the tuples and lists that they are made of.
use mathlib.Core.Path.{◌≡◌, refl, sym, ap, ap₂, ◌∙◌, subst}
use Prim.Native.Nat.{ℕ, zero, suc, ◌≤◌}
use mathlib.Core.Bool.{Bool, true, false, ◌&&◌, ◌||◌, not}
use mathlib.Core.List.{List, [], ◌∷◌}
use lib.ListN.{get_or}
use lib.Dec.{T, leb, eqb, leb→le, le→leb, eqb→eq, eqb_refl}
use Rattle.bsii_format.specs.Reader.{Consumed, with}
use Rattle.bsii_format.specs.Strings.{Id, nameless, named}
use Rattle.bsii_format.specs.Types.{Numeric, float, float_vec2, float_vec3, float_vec4, float_vec7, float_vec8, int32, int32_vec3, uint32, uint16, int64, uint64, bool, enum}
use Rattle.bsii_format.specs.Values.{Element, nums, str, word, ident, Value, single, array}
use Rattle.bsii_format.specs.Prototypes.{EnumValue, ValuePrototype, Prototype}
use Rattle.bsii_format.specs.Blocks.{DataValue, DataBlock}
use Rattle.bsii_format.proofs.Readers.{and_left, and_right, and_both}

-- ---- a test that decides a statement

pub record Decides (b : Bool) (P : Type 0) : Type 0 where
  pub proves : T b → P
  pub passes : P → T b

pub always : Decides true (Unit {0})
always = record { proves = λ h. tt; passes = λ h. tt }

pub never : {P : Type 0} → (P → ⊥) → Decides false P
never f = record { proves = λ h. absurd h; passes = λ p. f p }

pub itself : (b : Bool) → Decides b (T b)
itself b = record { proves = λ h. h; passes = λ h. h }

pub at_most : (m n : ℕ) → Decides (leb m n) (m ≤ n)
at_most m n = record { proves = leb→le m n; passes = le→leb m n }

pub both : {a b : Bool} {P Q : Type 0} → Decides a P → Decides b Q → Decides (a && b) (P × Q)
both {a} {b} x y = record {
  proves = λ h. (x.proves (and_left a b h), y.proves (and_right a b h));
  passes = λ h. and_both a b (x.passes h.0) (y.passes h.1);
}

pub only_if : (a : Bool) {b : Bool} {Q : Type 0} → Decides b Q → Decides (not a || b) (T a → Q)
only_if true y = record { proves = λ h k. y.proves h; passes = λ f. y.passes (f tt) }
only_if false y = record { proves = λ h k. absurd k; passes = λ f. tt }

-- the same test for a statement that says the same
pub restated : {b : Bool} {P Q : Type 0} → (P → Q) → (Q → P) → Decides b P → Decides b Q
restated f g x = record { proves = λ h. f (x.proves h); passes = λ q. x.passes (g q) }

-- ---- a test of equality

pub record Equality (A : Type 0) : Type 0 where
  pub test : A → A → Bool
  pub decides : (a b : A) → Decides (test a b) (a ≡ b)

abbrev pub of_laws : {A : Type 0} (t : A → A → Bool) → ((a b : A) → T (t a b) → a ≡ b) → ((a : A) → T (t a a)) → Equality A
of_laws t right same = record { test = t; decides = λ a b. record { proves = right a b; passes = λ e. subst (λ z. T (t a z)) e (same a) } }

unfoldable pub number_test : Equality ℕ
number_test = of_laws eqb eqb→eq eqb_refl

-- by a map that can be undone
unfoldable pub through_test : {A B : Type 0} (f : A → B) (g : B → A) → ((a : A) → g (f a) ≡ a) → Equality B → Equality A
through_test f g back E = record {
  test = λ a b. E.test (f a) (f b);
  decides = λ a b. restated (λ e. sym (back a) ∙ ap g e ∙ back b) (λ e. ap f e) (E.decides (f a) (f b));
}

unfoldable pub pair_test : {A B : Type 0} → Equality A → Equality B → Equality (A × B)
pair_test {A} {B} E F = record {
  test = λ a b. E.test a.0 b.0 && F.test a.1 b.1;
  decides = λ a b.
      restated (λ e. ap₂ (λ (x : A) (y : B). (x, y)) e.0 e.1) (λ e. (ap (λ (z : A × B). z.0) e, ap (λ (z : A × B). z.1) e))
      (both (E.decides a.0 b.0) (F.decides a.1 b.1));
}

unfoldable pub same_items : {A : Type 0} → (A → A → Bool) → List A → List A → Bool
same_items t [] [] = true
same_items t [] (y ∷ m) = false
same_items t (x ∷ l) [] = false
same_items t (x ∷ l) (y ∷ m) = t x y && same_items t l m

pub items_right : {A : Type 0} (E : Equality A) (l m : List A) → T (same_items E.test l m) → l ≡ m
unfolding same_items
items_right E [] [] h = refl
items_right E [] (y ∷ m) h = absurd h
items_right E (x ∷ l) [] h = absurd h
items_right E (x ∷ l) (y ∷ m) h =
    ap₂ (λ z k. z ∷ k) ((E.decides x y).proves (and_left (E.test x y) (same_items E.test l m) h))
    (items_right E l m (and_right (E.test x y) (same_items E.test l m) h))

pub items_same : {A : Type 0} (E : Equality A) (l : List A) → T (same_items E.test l l)
unfolding same_items
items_same E [] = tt
items_same E (x ∷ l) = and_both (E.test x x) (same_items E.test l l) ((E.decides x x).passes refl) (items_same E l)

unfoldable pub list_test : {A : Type 0} → Equality A → Equality (List A)
list_test E = of_laws (same_items E.test) (items_right E) (items_same E)

unfoldable pub bytes_test : Equality (List ℕ)
bytes_test = list_test number_test

-- ---- the parts of a file

unfoldable pub consumed_test : {A : Type 0} → Equality A → Equality (Consumed A)
consumed_test E = through_test (λ c. (c.value, c.raw)) (λ t. with t.0 t.1) (λ c. refl) (pair_test E bytes_test)

unfoldable pub enum_pair_test : Equality EnumValue
enum_pair_test = through_test (λ e. (e.number, e.string)) (λ t. record { number = t.0; string = t.1 }) (λ e. refl) (pair_test number_test bytes_test)

unfoldable pub definition_test : Equality ValuePrototype
definition_test =
    through_test (λ d. (d.type_id, (d.name, d.enum_values))) (λ t. record { type_id = t.0; name = t.1.0; enum_values = t.1.1 }) (λ d. refl)
    (pair_test number_test (pair_test bytes_test (list_test enum_pair_test)))

unfoldable pub id_code : Id → ℕ × List ℕ
id_code (nameless n) = (0, n ∷ [])
id_code (named l) = (1, l)

unfoldable pub id_of : ℕ → List ℕ → Id
id_of zero l = nameless (get_or l 0 0)
id_of (suc t) l = named l

pub id_back : (i : Id) → id_of (id_code i).0 (id_code i).1 ≡ i
unfolding id_code id_of
id_back (nameless n) = refl
id_back (named l) = refl

unfoldable pub id_test : Equality Id
id_test = through_test id_code (λ t. id_of t.0 t.1) id_back (pair_test number_test bytes_test)

-- an element as a number for its kind and a list
unfoldable pub kind_number : Numeric → ℕ
kind_number float = 0
kind_number float_vec2 = 1
kind_number float_vec3 = 2
kind_number float_vec4 = 3
kind_number float_vec7 = 4
kind_number float_vec8 = 5
kind_number int32 = 6
kind_number int32_vec3 = 7
kind_number uint32 = 8
kind_number uint16 = 9
kind_number int64 = 10
kind_number uint64 = 11
kind_number bool = 12
kind_number enum = 13

unfoldable pub element_code : Element → ℕ × List ℕ
element_code (nums k l) = (kind_number k, l)
element_code (str s) = (14, s)
element_code (word n) = (15, n ∷ [])
element_code (ident i) = (16, (id_code i).0 ∷ (id_code i).1)

unfoldable pub id_from : List ℕ → Id
id_from [] = named []
id_from (t ∷ l) = id_of t l

unfoldable pub element_of : ℕ → List ℕ → Element
element_of n =
    get_or
    (nums float ∷ nums float_vec2 ∷ nums float_vec3 ∷ nums float_vec4 ∷ nums float_vec7 ∷ nums float_vec8 ∷ nums int32 ∷ nums int32_vec3 ∷ nums uint32 ∷ nums uint16 ∷ nums int64 ∷ nums uint64 ∷ nums bool ∷ nums enum ∷ str ∷ (λ l. word (get_or l 0 0)) ∷ (λ l. ident (id_from l)) ∷ [])
    n str

pub element_back : (e : Element) → element_of (element_code e).0 (element_code e).1 ≡ e
unfolding element_code element_of kind_number id_from
element_back (nums float l) = refl
element_back (nums float_vec2 l) = refl
element_back (nums float_vec3 l) = refl
element_back (nums float_vec4 l) = refl
element_back (nums float_vec7 l) = refl
element_back (nums float_vec8 l) = refl
element_back (nums int32 l) = refl
element_back (nums int32_vec3 l) = refl
element_back (nums uint32 l) = refl
element_back (nums uint16 l) = refl
element_back (nums int64 l) = refl
element_back (nums uint64 l) = refl
element_back (nums bool l) = refl
element_back (nums enum l) = refl
element_back (str s) = refl
element_back (word n) = refl
element_back (ident i) = ap ident (id_back i)

unfoldable pub elements_test : Equality (List (Consumed Element))
elements_test = list_test (consumed_test (through_test element_code (λ t. element_of t.0 t.1) element_back (pair_test number_test bytes_test)))

unfoldable pub value_code : Value → ℕ × List (Consumed Element)
value_code (single e) = (0, e ∷ [])
value_code (array l) = (1, l)

unfoldable pub value_of : ℕ → List (Consumed Element) → Value
value_of zero [] = array []
value_of zero (e ∷ l) = single e
value_of (suc t) l = array l

pub value_back : (v : Value) → value_of (value_code v).0 (value_code v).1 ≡ v
unfolding value_code value_of
value_back (single e) = refl
value_back (array l) = refl

unfoldable pub value_test : Equality DataValue
value_test =
    through_test (λ v. (v.type_id, (v.value, v.raw))) (λ t. record { type_id = t.0; value = t.1.0; raw = t.1.1 }) (λ v. refl)
    (pair_test number_test (pair_test (through_test value_code (λ t. value_of t.0 t.1) value_back (pair_test number_test elements_test)) bytes_test))

unfoldable pub prototype_test : Equality Prototype
prototype_test =
    through_test (λ p. (p.head, (p.id, (p.name, (p.fields, p.terminator)))))
    (λ t. record { head = t.0; id = t.1.0; name = t.1.1.0; fields = t.1.1.1.0; terminator = t.1.1.1.1 }) (λ p. refl)
    (pair_test bytes_test (pair_test number_test (pair_test bytes_test (pair_test (list_test (consumed_test definition_test)) bytes_test))))

unfoldable pub block_test : Equality DataBlock
block_test =
    through_test (λ b. (b.head, (b.prototype_id, (b.id, b.values))))
    (λ t. record { head = t.0; prototype_id = t.1.0; id = t.1.1.0; values = t.1.1.1 }) (λ b. refl)
    (pair_test bytes_test (pair_test number_test (pair_test (consumed_test id_test) (list_test value_test))))
