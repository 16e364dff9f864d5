-- How long the text of one element is: a number's has a few hundred bytes at most, a string's four times its bytes and the quotes, an id's a multiple of its bytes.
use mathlib.Core.Path.{◌≡◌, refl, sym, subst}
use Prim.Native.Nat.{ℕ, zero, suc, ◌+◌, ◌*◌, ◌/◌, ◌%◌, ◌^◌, ◌≤◌, ◌<◌}
use native.Mathlib.Nat.{mod-lt}
use native.Mathlib.Omega.{arith}
use mathlib.Core.Bool.{Bool, true, false, cond, ◌&&◌}
use mathlib.Core.Option.{Option, none, some, map}
use mathlib.Core.List.{List, [], ◌∷◌, ◌++◌}
use lib.ListN.{length, length-append, get_or}
use lib.Dec.{T, leb, eqb, leb→le}
use lib.Ieee.{Float, nan, inf, fin, binary32, of_bits, add, of_int, is_nan, up, down}
use lib.Ieee.Fits.{add-fits}
use lib.Ieee.Bits.{to_bits-lt}
use Rattle.bsii_format.specs.Ascii.{ascii}
use Rattle.bsii_format.specs.Numbers.{signed}
use Rattle.bsii_format.specs.Replies.{zero_digit}
use Rattle.bsii_format.specs.Utf8.{◌to◌, within}
use Rattle.bsii_format.specs.Digits.{decimal, hex_padded, decimal_int}
use Rattle.bsii_format.specs.Floats.{bits_text, minus_if, float_text_of, float_text, vec2_text, vec3_text, vec4_text, floor_mod, floor_div, coefficient, sector_offset, quieted, sector_sum, placement_text, vec7_text}
use Rattle.bsii_format.specs.Strings.{low63, spelled, encoded_str_parser, characters, Id, nameless, named, id_parser}
use Rattle.bsii_format.specs.Types.{Numeric, float, float_vec2, float_vec3, float_vec4, float_vec7, float_vec8, int32, int32_vec3, uint32, uint16, int64, uint64, bool, enum, width, arity, Kind, numbers, string, encoded_string, id}
use Rattle.bsii_format.specs.Values.{Element, nums, str, word, ident, element_parser}
use Rattle.bsii_format.specs.Prototypes.{EnumValue}
use Rattle.bsii_format.specs.Text.{all_bare, escaped, string_text, or_empty, encoded_string_text, dotted, id_text, or_nil, bool_text, first_some, enum_string, numeric_text, element_text}
use Rattle.bsii_format.specs.File.{length_limit}
use Rattle.bsii_length.specs.Bounds.{element_bound}
use Rattle.bsii_length.proofs.Digits.{either, digits_length, hex_padded_length, signed_length, characters_length, groups_length}
use Rattle.bsii_length.proofs.Taken.{Takes, bind_takes, map_takes, weaken, cond_takes, verify_takes, repeat_takes, Row, nil, cons, row_long, Every, number_takes, str_takes}

-- ---- floats

float_text_of_length : (b : ℕ) (x : Float) → b < 2 ^ 65 → length (float_text_of b x) ≤ 67
unfolding float_text_of bits_text
float_text_of_length b nan h = omega (arith, digits_length 16 65 b (omega arith) h)
float_text_of_length b (inf s) h = omega (arith, digits_length 16 65 b (omega arith) h)
float_text_of_length b (fin s m e) h = go (eqb (m * up e % down e) 0) (leb (m * up e / down e) 10_000_000) refl
  where
    minus : (s : Bool) (t : List ℕ) → length (minus_if s t) ≤ suc (length t)
    minus true t = unfold minus_if in omega arith
    minus false t = unfold minus_if in omega arith

    go : (p q : Bool) → leb (m * up e / down e) 10_000_000 ≡ q → length (cond (p && q) (minus_if s (decimal (m * up e / down e))) (bits_text b)) ≤ 67
    go true true k =
        omega (
          arith,
          minus s (decimal (m * up e / down e)),
          digits_length 10 24 (m * up e / down e) (omega arith) (omega (arith, leb→le (m * up e / down e) 10_000_000 (subst T (sym k) tt))),
        )
    go true false k = unfold bits_text in omega (arith, digits_length 16 65 b (omega arith) h)
    go false q k = unfold bits_text in omega (arith, digits_length 16 65 b (omega arith) h)

float_text_length : (b : ℕ) → b < 2 ^ 65 → length (float_text b) ≤ 67
unfolding float_text
float_text_length b h = float_text_of_length b (of_bits binary32 b) h

sector_sum_below : (b k : ℕ) → b < 2 ^ 64 → suc (sector_sum b k) ≤ 2 ^ 65
unfolding sector_sum quieted
sector_sum_below b k h =
    either suc (is_nan (of_bits binary32 b)) (either suc (eqb (b / 0x40_0000 % 2) 0) (omega arith) (omega arith))
    (let x = add binary32 (of_bits binary32 b) (of_int binary32 (sector_offset k)) in
    omega (arith, to_bits-lt binary32 x (add-fits binary32 (of_bits binary32 b) (of_int binary32 (sector_offset k)))))

pub vec2_length : (a b : List ℕ) → length (vec2_text a b) ≡ 4 + length a + length b
unfolding vec2_text
vec2_length a b = simp length-append (omega arith)

pub vec3_length : (a b c : List ℕ) → length (vec3_text a b c) ≡ 6 + length a + length b + length c
unfolding vec3_text
vec3_length a b c = simp length-append (omega arith)

pub vec4_length : (a b c d : List ℕ) → length (vec4_text a b c d) ≡ 8 + length a + length b + length c + length d
unfolding vec4_text
vec4_length a b c d = simp length-append (omega arith)

-- ---- strings and ids

escaped_length : (s : List ℕ) → length (escaped s) ≤ 4 * length s
unfolding escaped
escaped_length [] = omega arith
escaped_length (x ∷ s) =
    let h : length (cond (within (32 to 127) x) (x ∷ []) (ascii "\\x" ++ hex_padded 2 x)) ≤ 4 =
    either length (within (32 to 127) x) (omega arith) (rw hex_padded_length (omega arith)) in
    rw length-append (omega (arith, escaped_length s))

pub string_text_length : (s : List ℕ) → length (string_text s) ≤ 4 * length s + 2
unfolding string_text
string_text_length [] = omega arith
string_text_length (x ∷ s) = either length (all_bare (x ∷ s)) (omega arith) (simp length-append (omega (arith, escaped_length (x ∷ s))))

or_empty_length : (s : List ℕ) → length (or_empty s) ≤ length s + 2
unfolding or_empty
or_empty_length [] = omega arith
or_empty_length (x ∷ s) = omega arith

-- a word that was read, in n bytes
pub record FineWord (w n : ℕ) : Type 0 where
  pub below : w < 2 ^ 64
  pub some : 1 ≤ n

word_takes : Takes ℕ encoded_str_parser FineWord
unfolding encoded_str_parser low63
word_takes =
    verify_takes spelled zero_digit
    (map_takes low63 (number_takes 8 (omega arith)) (λ n k l p. record { below = omega (arith, mod-lt n {m = 0x8000_0000_0000_0000} (omega arith)); some = omega (arith, p.1) }))

dotted_length : {l : List ℕ} {n : ℕ} → Row ℕ FineWord l n → length (dotted l) ≤ 65 * n
unfolding dotted
dotted_length nil = omega arith
dotted_length (cons {a = w} h k) = simp length-append (omega (arith, characters_length 64 w h.below, dotted_length k))

named_length : {l : List ℕ} {n : ℕ} → Row ℕ FineWord l n → length (id_text (named l)) ≤ 65 * n + 100
unfolding id_text
named_length nil = omega arith
named_length (cons {a = w} h k) = rw length-append (omega (arith, characters_length 64 w h.below, dotted_length k))

pub record FineId (i : Id) (n : ℕ) : Type 0 where
  pub text : length (id_text i) ≤ 65 * n + 100
  pub some : 1 ≤ n

pub id_takes : Takes Id id_parser FineId
unfolding id_parser id_text
id_takes =
    bind_takes _ (number_takes 1 (omega arith))
    (λ n k l p. cond_takes (eqb n 0xff)
    (map_takes nameless (number_takes 8 (omega arith)) (λ m j z q. record { text = rw length-append (omega (arith, groups_length 3 m q.0)); some = omega (arith, p.1) }))
    (map_takes named (repeat_takes n word_takes) (λ w j z q. record { text = omega (arith, named_length q.0); some = omega (arith, p.1) })))

-- ---- elements

abbrev pub size : Option (List ℕ) → ℕ
size none = 0
size (some t) = length t

-- the strings of an enum list are no longer than a file
abbrev pub ShortEnums : List EnumValue → Type 0
ShortEnums = Every EnumValue (λ x. length x.string ≤ length_limit)

first_some_size : {k : ℕ} (a b : Option (List ℕ)) → size a ≤ k → size b ≤ k → size (first_some a b) ≤ k
unfolding first_some
first_some_size none b h l = l
first_some_size (some a) b h l = h

enum_string_size : (n : ℕ) {enums : List EnumValue} → ShortEnums enums → size (enum_string n enums) ≤ length_limit
unfolding enum_string
enum_string_size n nil = omega arith
enum_string_size n (cons {a = x} {l = l} h k) =
    first_some_size (enum_string n l) (cond (eqb n x.number) (some x.string) none) (enum_string_size n k) (either size (eqb n x.number) h (omega arith))

mapped_size : (o : Option (List ℕ)) → size (map string_text o) ≤ 4 * size o + 2
mapped_size none = omega arith
mapped_size (some s) = string_text_length s

or_nil_length : (k n : ℕ) → n < 2 ^ 64 → length (or_nil k n) ≤ 65
unfolding or_nil
or_nil_length k n h = either length (eqb n k) (omega arith) (digits_length 10 64 n (omega arith) h)

bool_text_length : (n : ℕ) → length (bool_text n) ≤ 5
unfolding bool_text
bool_text_length zero = omega arith
bool_text_length (suc n) = omega arith

module _ (l : List ℕ) (h : (i : ℕ) → get_or l i 0 < 2 ^ 64) where
  float_at : (i : ℕ) → length (float_text (get_or l i 0)) ≤ 67
  float_at i = float_text_length (get_or l i 0) (omega (arith, h i))

  int_at : (half i : ℕ) → half ≤ 2 ^ 63 → length (decimal_int (signed half (get_or l i 0))) ≤ 68
  int_at half i k = signed_length half (get_or l i 0) k (h i)

  sum_length : (i k : ℕ) → length (float_text (sector_sum (get_or l i 0) k)) ≤ 67
  sum_length i k = float_text_length (sector_sum (get_or l i 0) k) (sector_sum_below (get_or l i 0) k (h i))

  placement_length : length (placement_text l) ≤ 500
  unfolding placement_text
  placement_length =
      let c = coefficient (get_or l 3 0) in
      simp (length-append, vec3_length, vec4_length) (omega (arith, sum_length 0 (floor_mod c 4096), float_at 1, sum_length 2 (floor_mod (floor_div c 4096) 4096), float_at 4, float_at 5, float_at 6, float_at 7))

  vec7_length : length (vec7_text l) ≤ 500
  unfolding vec7_text
  vec7_length =
      simp (length-append, vec3_length, vec4_length) (omega (arith, float_at 0, float_at 1, float_at 2, float_at 3, float_at 4, float_at 5, float_at 6))

  numeric_size : (k : Numeric) {enums : List EnumValue} → ShortEnums enums → size (numeric_text enums k l) ≤ element_bound
  unfolding numeric_text
  numeric_size float e = omega (arith, float_at 0)
  numeric_size float_vec2 e = rw vec2_length (omega (arith, float_at 0, float_at 1))
  numeric_size float_vec3 e = rw vec3_length (omega (arith, float_at 0, float_at 1, float_at 2))
  numeric_size float_vec4 e = rw vec4_length (omega (arith, float_at 0, float_at 1, float_at 2, float_at 3))
  numeric_size float_vec7 e = omega (arith, vec7_length)
  numeric_size float_vec8 e = omega (arith, placement_length)
  numeric_size int32 e = omega (arith, int_at 0x8000_0000 0 (omega arith))
  numeric_size int32_vec3 e = rw vec3_length (omega (arith, int_at 0x8000_0000 0 (omega arith), int_at 0x8000_0000 1 (omega arith), int_at 0x8000_0000 2 (omega arith)))
  numeric_size uint32 e = omega (arith, or_nil_length 0xffff_ffff (get_or l 0 0) (h 0))
  numeric_size uint16 e = omega (arith, or_nil_length 0xffff (get_or l 0 0) (h 0))
  numeric_size int64 e = omega (arith, int_at 0x8000_0000_0000_0000 0 (omega arith))
  numeric_size uint64 e = omega (arith, or_nil_length 0xffff_ffff_ffff_ffff (get_or l 0 0) (h 0))
  numeric_size bool e = omega (arith, bool_text_length (get_or l 0 0))
  numeric_size enum {enums} e = omega (arith, mapped_size (enum_string (get_or l 0 0) enums), enum_string_size (get_or l 0 0) e)

-- an element that was read, in n bytes
pub record FineElement (e : Element) (n : ℕ) : Type 0 where
  pub text : (enums : List EnumValue) → ShortEnums enums → size (element_text enums e) ≤ element_bound
  pub some : 1 ≤ n

row_at : {l : List ℕ} {n : ℕ} → Row ℕ FineWord l n → (i : ℕ) → get_or l i 0 < 2 ^ 64
row_at nil i = omega arith
row_at (cons h k) zero = h.below
row_at (cons h k) (suc i) = row_at k i

widths : (k : Numeric) → (1 ≤ width k) × (width k ≤ 8) × (1 ≤ arity k)
unfolding width arity
widths float = omega arith
widths float_vec2 = omega arith
widths float_vec3 = omega arith
widths float_vec4 = omega arith
widths float_vec7 = omega arith
widths float_vec8 = omega arith
widths int32 = omega arith
widths int32_vec3 = omega arith
widths uint32 = omega arith
widths uint16 = omega arith
widths int64 = omega arith
widths uint64 = omega arith
widths bool = omega arith
widths enum = omega arith

pub element_takes : (k : Kind) → Takes Element (element_parser k) FineElement
unfolding element_parser element_text encoded_string_text
element_takes (numbers k) =
    let w = widths k in
    map_takes (nums k) (repeat_takes (arity k) (weaken (number_takes (width k) w.1) (λ v n l p. record { below = p.0; some = omega (arith, w.0, p.1) })))
    (λ v n l p. record { text = λ enums e. numeric_size v (row_at p.0) k e; some = omega (arith, w.2, p.1, row_long (λ a m q. q.some) p.0) })
element_takes string = map_takes str str_takes (λ v n l p. record { text = λ enums e. omega (arith, string_text_length v, p.0); some = p.1 })
element_takes encoded_string =
    map_takes word word_takes (λ v n l p. record { text = λ enums e. omega (arith, or_empty_length (characters v), characters_length 64 v p.below); some = p.some })
element_takes id = map_takes ident id_takes (λ v n l p. record { text = λ enums e. omega (arith, p.text); some = p.some })
