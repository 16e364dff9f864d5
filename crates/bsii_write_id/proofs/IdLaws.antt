-- An accepted id's text, by the numbers that stand in its bytes.
use Prim.Native.Nat.{ℕ, zero, suc, ◌+◌, ◌-◌, ◌*◌, ◌/◌, ◌%◌, ◌<◌, ◌≤◌}
use mathlib.Core.Path.{◌≡◌, refl, sym, ap, ap₂, ◌∙◌}
use mathlib.Core.Logic.{⊎_elim}
use mathlib.Core.Bool.{Bool, cond}
use mathlib.Core.List.{List, [], ◌∷◌, ◌++◌, append_assoc}
use native.Mathlib.Omega.{arith}
use lib.ListN.{length, drop, get_or, length-append}
use lib.Dec.{eqb}
use borrow.Author.Tests.{eq-eqb, ne_eqb, lt-ltb, le-ltb}
use Rattle.bsii_format.specs.Ascii.{ascii}
use Rattle.bsii_format.specs.Reader.{Reader, ok, verify, success, repeat, ◌>>=◌, ◌<$>◌, WellFormed}
use Rattle.bsii_format.specs.Numbers.{little_endian, number, le_u64}
use Rattle.bsii_format.specs.Strings.{low63, spelled, characters, encoded_str_parser, Id, nameless, named, id_parser}
use Rattle.bsii_format.specs.Digits.{hexadecimal, hex_padded}
use Rattle.bsii_format.specs.Text.{groups, dotted, id_text}
use Rattle.bsii_format.proofs.Positions.{number_at_law, number_short}
use Rattle.bsii_format.proofs.Readers.{after_ok, map_ok, cond_ok, is_true, ok_val, ok_at, ok_rest}
use Rattle.bsii_string.specs.NumbersAt.{or_zero, number_at}
use Rattle.bsii_string.proofs.NumbersAt.{split, number_is_law, number_moves}
use Rattle.bsii_window.specs.Stored.{Stored}
use Rattle.bsii_window.proofs.Laws.{lt_or_le}
use Rattle.bsii_window.proofs.Stores.{stored_being, stored_same}
use Rattle.bsii_digits.proofs.DigitLaws.{length_more, some_digit, sixteen, padded_length, padded_whole}
use Rattle.bsii_digits.proofs.Counts.{hex_below}
use Rattle.bsii_text_length.specs.Words.{spelling}
use Rattle.bsii_write_id.specs.Ids.{word_at, dotted_at, IdStored, IdLength}
use Rattle.bsii_text_length.proofs.WordLaws.{characters_spelling}

-- ---- groups of 16 bits

groups_small : (k n : ℕ) → n < 0x1_0000 → groups k n ≡ ascii "." ++ hexadecimal n
unfolding groups
groups_small zero n h = refl
groups_small (suc k) n h = ap (λ (b : Bool). cond b (ascii "." ++ hexadecimal n) (groups k (n / 0x1_0000) ++ ascii "." ++ hex_padded 4 (n % 0x1_0000))) (lt-ltb n 0x1_0000 h)

groups_more : (k n : ℕ) → 0 < k → 0x1_0000 ≤ n → groups k n ≡ groups (k - 1) (n / 0x1_0000) ++ (ascii "." ++ hex_padded 4 (n % 0x1_0000))
unfolding groups
groups_more zero n p h = absurd (omega arith)
groups_more (suc k) n p h =
    let z : k ≡ suc k - 1 = omega arith in
    ap (λ (b : Bool). cond b (ascii "." ++ hexadecimal n) (groups k (n / 0x1_0000) ++ ascii "." ++ hex_padded 4 (n % 0x1_0000))) (le-ltb n 0x1_0000 h)
    ∙ append_assoc (groups k (n / 0x1_0000)) (ascii ".") (hex_padded 4 (n % 0x1_0000))
    ∙ ap (λ (j : ℕ). groups j (n / 0x1_0000) ++ (ascii "." ++ hex_padded 4 (n % 0x1_0000))) z

-- one group more makes no difference to a number that needs none
abbrev Enough : ℕ → ℕ → Type 0
Enough k n = groups (k - 1) n ≡ groups k n

enough_small : (k n : ℕ) → n < 0x1_0000 → Enough k n
enough_small k n h = groups_small (k - 1) n h ∙ sym (groups_small k n h)

enough_more : (k m : ℕ) → 1 < k → ((n : ℕ) → n < m → Enough (k - 1) n) → (n : ℕ) → n < 0x1_0000 * m → Enough k n
enough_more k m p f n h =
    ⊎_elim
    (λ l. enough_small k n l)
    (λ l.
    groups_more (k - 1) n (omega arith) l
    ∙ ap (λ (x : List ℕ). x ++ (ascii "." ++ hex_padded 4 (n % 0x1_0000))) (f (n / 0x1_0000) (omega arith))
    ∙ sym (groups_more k n (omega arith) l))
    (lt_or_le n 0x1_0000)

-- the last group of a number of 64 bits
pub groups_end : (n : ℕ) → n < 0x1_0000_0000_0000_0000 → 0x1_0000 ≤ n → groups 3 n ≡ groups 3 (n / 0x1_0000) ++ (ascii "." ++ hex_padded 4 (n % 0x1_0000))
groups_end n h l =
    let e : (m : ℕ) → m < 0x1_0000_0000_0000 → Enough 3 m = enough_more 3 0x1_0000_0000 (omega arith) (enough_more 2 0x1_0000 (omega arith) (enough_small 1)) in
    groups_more 3 n (omega arith) l ∙ ap (λ (x : List ℕ). x ++ (ascii "." ++ hex_padded 4 (n % 0x1_0000))) (e (n / 0x1_0000) (omega arith))

pub five_more : (n : ℕ) {i : ℕ} → n < 0x1_0000_0000_0000_0000 → 0x1_0000 ≤ n → length (groups 3 n) ≤ i → 5 ≤ i
five_more n h l k =
    let e = ap length (groups_end n h l) ∙ length-append (groups 3 (n / 0x1_0000)) (ascii "." ++ hex_padded 4 (n % 0x1_0000)) in
    omega (arith, e, padded_length 4 (n % 0x1_0000))

-- the first one, by the number of its digits
pub groups_start : (n d : ℕ) → n < 0x1_0000 → d ≡ length (hexadecimal n) → groups 3 n ≡ ascii "." ++ hex_padded d n
groups_start n d h e = groups_small 3 n h ∙ ap (λ (x : List ℕ). ascii "." ++ x) (sym (padded_whole n (omega arith)) ∙ ap (λ (w : ℕ). hex_padded w n) (sym e))

-- ---- how long they are

hex_more : (n : ℕ) → 16 ≤ n → length (hexadecimal n) ≡ suc (length (hexadecimal (n / 16)))
hex_more = length_more 16 sixteen

hex_four : (n : ℕ) → 0x1_0000 ≤ n → length (hexadecimal n) ≡ 4 + length (hexadecimal (n / 0x1_0000))
hex_four n h =
    let z : n / 16 / 16 / 16 / 16 ≡ n / 0x1_0000 = omega arith in
    let a = hex_more n (omega arith) in
    let b = hex_more (n / 16) (omega arith) in
    let c = hex_more (n / 16 / 16) (omega arith) in
    let d = hex_more (n / 16 / 16 / 16) (omega arith) in
    let e = ap (λ (m : ℕ). length (hexadecimal m)) z in
    omega (arith, a, b, c, d, e)

-- the digits, and a dot for every four of them
abbrev Long : ℕ → ℕ → Type 0
Long k n = length (groups k n) ≡ length (hexadecimal n) + (length (hexadecimal n) + 3) / 4

long_small : (k n : ℕ) → n < 0x1_0000 → Long k n
long_small k n h = ap length (groups_small k n h) ∙ omega (arith, hex_below 3 n h, some_digit 16 sixteen n)

-- a group more
long_more : (k m : ℕ) → 0 < k → ((n : ℕ) → n < m → Long (k - 1) n) → (n : ℕ) → n < 0x1_0000 * m → Long k n
long_more k m p f n h =
    ⊎_elim
    (λ l. long_small k n l)
    (λ l.
    ap length (groups_more k n p l)
    ∙ length-append (groups (k - 1) (n / 0x1_0000)) (ascii "." ++ hex_padded 4 (n % 0x1_0000))
    ∙ omega (arith, f (n / 0x1_0000) (omega arith), hex_four n l, padded_length 4 (n % 0x1_0000)))
    (lt_or_le n 0x1_0000)

-- behind `_nameless`
pub nameless_behind : (n : ℕ) → length (id_text (nameless n)) ≡ 9 + length (groups 3 n)
unfolding id_text
nameless_behind n = length-append (ascii "_nameless") (groups 3 n)

pub nameless_length : (n d : ℕ) → n < 0x1_0000_0000_0000_0000 → length (hexadecimal n) ≡ d → length (id_text (nameless n)) ≡ 9 + d + (d + 3) / 4
nameless_length n d h e =
    let g : Long 3 n = long_more 3 0x1_0000_0000_0000 (omega arith) (long_more 2 0x1_0000_0000 (omega arith) (long_more 1 0x1_0000 (omega arith) (long_small 0))) n h in
    nameless_behind n ∙ omega (arith, g, e)

-- ---- words

pub word_text : {v : ℕ} (s : List ℕ) (at : ℕ) → v ≡ number_at 8 s at → spelling (v % 0x8000_0000_0000_0000) ≡ word_at s at
unfolding word_at low63
word_text s at e = ap (λ (n : ℕ). spelling (n % 0x8000_0000_0000_0000)) e

-- what an accepted word at a place is
record Word (s : List ℕ) (at w e : ℕ) (r : List ℕ) : Type 0 where
  pub text : characters w ≡ word_at s at
  pub moved : e ≡ at + 8
  pub rest : r ≡ drop (at + 8) s

word_at_law : (s : List ℕ) (at w e : ℕ) (r : List ℕ) → encoded_str_parser at (drop at s) ≡ ok w e r → Word s at w e r
unfolding encoded_str_parser verify word_at
word_at_law s at w e r h =
    let q = after_ok ((low63 <$> le_u64) at (drop at s)) _ h in
    let v = cond_ok (spelled q.0) (ok q.0 q.1 q.2) _ q.4 in
    let u = map_ok low63 le_u64 at (drop at s) q.3 in
    let m = number_moves 8 s at u.2 in
    let z : q.0 ≡ w = ok_val v.1 in
    record {
      text = ap characters (sym z) ∙ characters_spelling q.0 (is_true (spelled q.0) v.0) ∙ ap spelling (sym u.1 ∙ ap low63 (sym (number_is_law 8 s at u.2)));
      moved = sym (ok_at v.1) ∙ m.0;
      rest = sym (ok_rest v.1) ∙ m.1;
    }

dotted_at_law : (n : ℕ) (s : List ℕ) (at : ℕ) {l : List ℕ} {e : ℕ} {r : List ℕ} → repeat n encoded_str_parser at (drop at s) ≡ ok l e r → (dotted l ≡ dotted_at n s at) × (e ≡ at + 8 * n)
unfolding repeat success dotted dotted_at
dotted_at_law zero s at h = (ap dotted (sym (ok_val h)), omega (arith, ok_at h))
dotted_at_law (suc n) s at h =
    let p = split n encoded_str_parser at (drop at s) h in
    let w = word_at_law s at p.first p.next p.rest p.front in
    let d = dotted_at_law n s (at + 8) (ap₂ (λ (i : ℕ) (t : List ℕ). repeat n encoded_str_parser i t) (sym w.moved) (sym w.rest) ∙ p.back) in
    (ap dotted (sym p.whole) ∙ ap₂ (λ (x y : List ℕ). ascii "." ++ x ++ y) w.text d.0, omega (arith, d.1))

pub dotted_more : (n : ℕ) (s : List ℕ) (at : ℕ) → 0 < n → dotted_at n s at ≡ ascii "." ++ word_at s at ++ dotted_at (n - 1) s (at + 8)
unfolding dotted_at
dotted_more zero s at h = absurd (omega arith)
dotted_more (suc n) s at h = let z : n ≡ suc n - 1 = omega arith in ap (λ (k : ℕ). ascii "." ++ word_at s at ++ dotted_at k s (at + 8)) z

pub dotted_none : (n : ℕ) (s : List ℕ) (at : ℕ) → n ≤ 0 → dotted_at n s at ≡ []
unfolding dotted_at
dotted_none zero s at h = refl
dotted_none (suc n) s at h = absurd (omega arith)

-- ---- ids

-- what an accepted id is by its first byte
module _ (s : List ℕ) {n : ℕ} (b : n ≡ number_at 1 s 0) where
  body : (i : Id) → WellFormed id_parser i s → cond (eqb n 0xff) (nameless <$> le_u64) (named <$> repeat n encoded_str_parser) 1 (drop 1 s) ≡ ok i (length s) []
  unfolding id_parser ◌>>=◌
  body i h =
      let f : ℕ → Reader Id = λ n. cond (eqb n 0xff) (nameless <$> le_u64) (named <$> repeat n encoded_str_parser) in
      let q = after_ok (number 1 0 s) f h in
      let m = number_moves 1 s 0 q.3 in
      ap (λ (k : ℕ). f k 1 (drop 1 s)) (b ∙ number_is_law 1 s 0 q.3) ∙ ap₂ (f q.0) (sym m.0) (sym m.1) ∙ q.4

  digits : n ≡ 0xff → (i : Id) → WellFormed id_parser i s → (v : ℕ) × (nameless v ≡ i) × (le_u64 1 (drop 1 s) ≡ ok v (length s) [])
  digits e i h = map_ok nameless le_u64 1 (drop 1 s) (rw (eq-eqb n 0xff e) at (body i h))

  words : (n ≡ 0xff → ⊥) → (i : Id) → WellFormed id_parser i s → (l : List ℕ) × (named l ≡ i) × (repeat n encoded_str_parser 1 (drop 1 s) ≡ ok l (length s) [])
  words e i h = map_ok named (repeat n encoded_str_parser) 1 (drop 1 s) (rw (ne_eqb n 0xff e) at (body i h))

  pub nameless_text : {v : ℕ} → n ≡ 0xff → v ≡ number_at 8 s 1 → (i : Id) → WellFormed id_parser i s → id_text (nameless v) ≡ id_text i
  nameless_text e f i h = let u = digits e i h in ap id_text (ap nameless (f ∙ number_is_law 8 s 1 u.2) ∙ u.1)

  pub null_text : n ≡ 0 → (i : Id) → WellFormed id_parser i s → ascii "null" ≡ id_text i
  unfolding repeat success id_text
  null_text e i h =
      let u = words (λ f. omega (arith, e, f)) i h in
      ap id_text (ap named (ok_val (ap (λ (k : ℕ). repeat k encoded_str_parser 1 (drop 1 s)) (sym e) ∙ u.2)) ∙ u.1)

  pub named_text : {v : ℕ} → (n ≡ 0xff → ⊥) → (n ≡ 0 → ⊥) → v ≡ number_at 8 s 1 → (i : Id) → WellFormed id_parser i s
      → spelling (v % 0x8000_0000_0000_0000) ++ dotted_at (n - 1) s 9 ≡ id_text i
  unfolding id_text
  named_text e o f i h =
      let u = words e i h in
      let y : suc (n - 1) ≡ n = omega (arith, o) in
      let p = split (n - 1) encoded_str_parser 1 (drop 1 s) (ap (λ (k : ℕ). repeat k encoded_str_parser 1 (drop 1 s)) y ∙ u.2) in
      let w = word_at_law s 1 p.first p.next p.rest p.front in
      let d = dotted_at_law (n - 1) s 9 (ap₂ (λ (i : ℕ) (t : List ℕ). repeat (n - 1) encoded_str_parser i t) (sym w.moved) (sym w.rest) ∙ p.back) in
      ap₂ (λ (x y : List ℕ). x ++ y) (word_text s 1 f ∙ sym w.text) (sym d.0) ∙ ap id_text (ap named p.whole ∙ u.1)

  pub named_length : (n ≡ 0xff → ⊥) → (i : Id) → WellFormed id_parser i s → length s ≡ 1 + 8 * n
  named_length e i h = (dotted_at_law n s 1 (words e i h).2).1

  id_short : n < 0x100 → (i : Id) → WellFormed id_parser i s → length s ≤ 2033
  id_short l i h =
      ⊎_elim
      (λ k. omega (arith, named_length (λ e. omega (arith, e)) i h))
      (λ k. omega (arith, (number_moves 8 s 1 (digits (omega arith) i h).2).0))
      (lt_or_le n 0xff)

first_byte : (s : List ℕ) → number_at 1 s 0 ≤ get_or s 0 0
unfolding number_at or_zero little_endian
first_byte [] = omega (arith, ap or_zero (number_short 1 [] 0 (omega arith)))
first_byte (x ∷ s) = omega (arith, number_is_law 1 (x ∷ s) 0 (number_at_law 1 (x ∷ s) 0 (omega arith)))

-- no id has more bytes: 254 words behind their count
pub most_bytes : (s : List ℕ) → get_or s 0 0 < 0x100 → (i : Id) → WellFormed id_parser i s → length s ≤ 2033
most_bytes s l = id_short s refl (omega (arith, first_byte s))

-- ---- contracts

module _ {s : List ℕ} {x : List ℕ} (f : (i : Id) → WellFormed id_parser i s → x ≡ id_text i) where
  pub id_stored : {old new : List ℕ} {to r : ℕ} → Stored old to x r new → r ≤ to + 29 + 2 * length s → IdStored s old to r new
  id_stored w m = record { stores = λ i h. stored_being (f i h) w; after = omega (arith, w.next); most = m; size = stored_same w }

  pub id_counted : {r : ℕ} → r ≡ length x → r ≤ 29 + 2 * length s → IdLength s r
  id_counted e m = record { counts = λ i h. e ∙ ap length (f i h); most = m }
