-- Words and ids, measured.
use mathlib.Core.Path.{◌≡◌, refl, sym, ap, ◌∙◌}
use Prim.Native.Nat.{ℕ, zero, suc, ◌+◌, ◌-◌, ◌^◌, ◌≤◌, ◌<◌}
use native.Mathlib.Omega.{arith}
use mathlib.Core.Bool.{Bool, true, cond}
use mathlib.Core.Option.{Option, none, some, get_or}
use mathlib.Core.List.{List, [], ◌∷◌}
use lib.ListN.{length, drop, length-append}
use borrow.Author.Tests.{eq-eqb, ne_eqb}
use Rattle.bsii_format.specs.Replies.{zero_digit}
use Rattle.bsii_format.specs.Reader.{ok, fault, Reader, ◌>>=◌, success, ◌<$>◌, verify, repeat}
use Rattle.bsii_format.specs.Numbers.{number, le_u64}
use Rattle.bsii_format.specs.Strings.{base38, spelled, characters, low63, encoded_str_parser, Id, nameless, named, id_parser}
use Rattle.bsii_format.specs.Text.{or_empty, encoded_string_text, dotted, id_text}
use Rattle.bsii_format.proofs.Readers.{after_ok, cond_ok, is_true, ok_val, repeat_exact}
use Rattle.bsii_format.proofs.Parsers.{encoded_str_exact}
use Rattle.bsii_format.proofs.Positions.{bind_ok, bind_fault}
use Rattle.bsii_string.specs.Answers.{fault_is, num_of, refused_at}
use Rattle.bsii_string.specs.declared.answers.Refusal.{Refusal}
use Rattle.bsii_word.specs.Words.{spelled_as}
use Rattle.bsii_word.proofs.Base38.{length_of, accepted, not_accepted}
use Rattle.bsii_word.proofs.WordLaws.{word_short as short, word_whole as whole, word_not as not-spelled}
use Rattle.bsii_text_length.proofs.WordLaws.{characters_spelling, at_most_thirteen}
use Rattle.bsii_measure_string.specs.Measured.{long_at, measured, row_size}
use Rattle.bsii_measure_string.specs.declared.answers.Measured.{Measured}
use Rattle.bsii_measure_string.proofs.Measures.{measured_ok, measured_fault, measured_map, refused_too, sum_next}
use Rattle.std.specs.Prelude.{Ok, Err, Some, None, Result as Outcome}

-- ---- a word by its characters

abbrev word_size : ℕ → ℕ
word_size w = length (characters w)

length_characters : (n : ℕ) {k : ℕ} → length_of n ≡ Some k → k ≡ length (characters n)
unfolding characters
length_characters n = go (base38 n)
  where
    go : (o : Option (List ℕ)) {k : ℕ} → spelled_as o ≡ Some k → k ≡ length (get_or o [])
    go none e = let z : ◌≡◌ {A = ℕ} 0 1 = cc in absurd (omega arith)
    go (some l) e = cc

-- what an answer about the word at an offset says
abbrev pub WordRead : List ℕ → ℕ → Outcome Measured Refusal → Type 0
WordRead s at r = r ≡ measured word_size (encoded_str_parser at (drop at s))

module _ (s : List ℕ) (at : ℕ) {x : Outcome (ℕ × ℕ) Refusal} (e : num_of s x ≡ number 8 at (drop at s)) where
  pub word_short : {f : Refusal} → x ≡ Err f → WordRead s at (Err f)
  unfolding measured
  word_short z = sym (ap (measured word_size) (short (drop at s) at (sym e ∙ ap (num_of s) z)))

  module _ {n next : ℕ} (z : x ≡ Ok (n, next)) where
    read : number 8 at (drop at s) ≡ ok n next (drop next s)
    read = sym e ∙ ap (num_of s) z

    pub word_zero : length_of (low63 n) ≡ None → {f : Refusal} → f ≡ refused_at zero_digit at → WordRead s at (Err f)
    unfolding measured low63
    word_zero h k = ap Err k ∙ sym (ap (measured word_size) (not-spelled (drop at s) at n next (drop next s) read (not_accepted (low63 n) h)))

    pub word_next : {k : ℕ} → length_of (low63 n) ≡ Some k → WordRead s at (long_at next k)
    unfolding measured low63
    word_next h = ap (λ m. long_at next m) (length_characters (low63 n) h) ∙ sym (ap (measured word_size) (whole (drop at s) at n next (drop next s) read (accepted (low63 n) h)))

-- as a value
module _ (s : List ℕ) (at : ℕ) {r : Outcome Measured Refusal} (e : WordRead s at r) where
  abbrev empty_size : ℕ → ℕ
  empty_size w = length (encoded_string_text w)

  pub encoded_fault : {f : Refusal} → r ≡ Err f → Err f ≡ measured empty_size (encoded_str_parser at (drop at s))
  encoded_fault z = refused_too word_size empty_size (encoded_str_parser at (drop at s)) (encoded_str_parser at (drop at s)) (λ f k. k) (sym z ∙ e)

  written : {n k m : ℕ} → r ≡ long_at n k → ((l : List ℕ) → k ≡ length l → m ≡ length (or_empty l)) → long_at n m ≡ measured empty_size (encoded_str_parser at (drop at s))
  unfolding measured encoded_string_text
  written {n} z h =
      let q = measured_ok encoded_str_exact word_size s at (sym z ∙ e) in
      ap (λ i. long_at n i) (h (characters q.value) q.long) ∙ sym (ap (measured empty_size) q.reads)

  pub encoded_none : {n k : ℕ} → r ≡ long_at n k → k ≡ 0 → long_at n 2 ≡ measured empty_size (encoded_str_parser at (drop at s))
  unfolding or_empty
  encoded_none {k = k} z h = written z go
    where
      go : (l : List ℕ) → k ≡ length l → 2 ≡ length (or_empty l)
      go [] d = refl
      go (x ∷ l) d = absurd (omega arith)

  pub encoded_some : {n k : ℕ} → r ≡ long_at n k → (k ≡ 0 → ⊥) → long_at n k ≡ measured empty_size (encoded_str_parser at (drop at s))
  unfolding or_empty
  encoded_some {k = k} z h = written z go
    where
      go : (l : List ℕ) → k ≡ length l → k ≡ length (or_empty l)
      go [] d = absurd (h d)
      go (x ∷ l) d = d

-- ---- the loop over an id's words

-- a word, with a dot
abbrev pub dotted_size : ℕ → ℕ → ℕ
dotted_size i w = 1 + length (characters w)

pub word_fault : (s : List ℕ) (at : ℕ) {r : Outcome Measured Refusal} → WordRead s at r → {f : Refusal} → r ≡ Err f → encoded_str_parser at (drop at s) ≡ fault (fault_is f)
word_fault s at e z = measured_fault word_size (encoded_str_parser at (drop at s)) (sym z ∙ e)

-- an accepted word has no digit 0, and 63 bits
word_accepted : (at : ℕ) (s : List ℕ) {w n : ℕ} {r : List ℕ} → encoded_str_parser at s ≡ ok w n r → (spelled w ≡ true) × (w < 2 ^ 64)
unfolding encoded_str_parser verify ◌<$>◌ ◌>>=◌ success low63
word_accepted at s {w} e =
    let q = after_ok ((low63 <$> le_u64) at s) _ e in
    let k = cond_ok (spelled q.0) (ok q.0 q.1 q.2) _ q.4 in
    let p = after_ok (le_u64 at s) _ q.3 in
    let v = ok_val k.1 in
    let l = ok_val p.4 in
    (ap spelled (sym v) ∙ is_true (spelled q.0) k.0, omega (arith, v, l))

pub word_few : (s : List ℕ) (at : ℕ) {r : Outcome Measured Refusal} → WordRead s at r → {n l : ℕ} → r ≡ long_at n l → l ≤ 13
word_few s at e z =
    let q = measured_ok encoded_str_exact word_size s at (sym z ∙ e) in
    let a = word_accepted at (drop at s) q.reads in
    omega (arith, q.long, ap length (characters_spelling q.value a.0), at_most_thirteen q.value a.1)

-- the words behind the first k of them, once one more is passed
module _ (s : List ℕ) (count k at long : ℕ) {r : Outcome Measured Refusal} (e : WordRead s at r) where
  pub words_next : {n l : ℕ} → k < count → r ≡ long_at n l
      → measured (λ x. long + (1 + l) + row_size dotted_size (k + 1) x) (repeat (count - (k + 1)) encoded_str_parser n (drop n s))
      ≡ measured (λ x. long + row_size dotted_size k x) (repeat (count - k) encoded_str_parser at (drop at s))
  words_next {n} {l} h z =
      let q = measured_ok encoded_str_exact word_size s at (sym z ∙ e) in
      let i : count - (k + 1) ≡ count - k - 1 = omega arith in
      rw (i, q.long) (sum_next encoded_str_parser dotted_size s (count - k) at k long (omega arith) q.reads)

-- ---- ids

abbrev id_size : Id → ℕ
id_size i = length (id_text i)

abbrev pub named_size : List ℕ → ℕ
named_size l = length (id_text (named l))

abbrev nameless_size : ℕ → ℕ
nameless_size n = length (id_text (nameless n))

dotted_size_law : (i : ℕ) (l : List ℕ) → length (dotted l) ≡ row_size dotted_size i l
unfolding dotted row_size
dotted_size_law i [] = refl
dotted_size_law i (w ∷ l) = simp length-append (omega (arith, dotted_size_law (suc i) l))

named_size_law : (w : ℕ) (l : List ℕ) → row_size dotted_size 0 (w ∷ l) ≡ named_size (w ∷ l) + 1
unfolding id_text row_size
named_size_law w l = rw length-append (omega (arith, dotted_size_law 1 l))

-- a row that is not empty
row_some : {A : Type 0} (R : Reader A) (count at : ℕ) (s : List ℕ) {l : List A} {n : ℕ} {r : List ℕ} → 0 < count → repeat count R at s ≡ ok l n r → (a : A) × (k : List A) × (l ≡ a ∷ k)
unfolding repeat ◌>>=◌ success
row_some R zero at s h e = absurd (omega arith)
row_some R (suc m) at s h e =
    let q = after_ok (R at s) _ e in
    let p = after_ok (repeat m R q.1 q.2) _ q.4 in
    (q.0, p.0, sym (ok_val p.4))

module _ (s : List ℕ) (start count : ℕ) where
  pub words_fault : {f : Refusal} → Err f ≡ measured (row_size dotted_size 0) (repeat count encoded_str_parser start (drop start s)) → Err f ≡ measured named_size (repeat count encoded_str_parser start (drop start s))
  words_fault h = refused_too (row_size dotted_size 0) named_size (repeat count encoded_str_parser start (drop start s)) (repeat count encoded_str_parser start (drop start s)) (λ f e. e) h

  -- the first word has no dot
  pub words_done : {n l : ℕ} → 0 < count → long_at n l ≡ measured (row_size dotted_size 0) (repeat count encoded_str_parser start (drop start s))
      → long_at n (l - 1) ≡ measured named_size (repeat count encoded_str_parser start (drop start s))
  unfolding measured
  words_done {n} {l} h e =
      let q = measured_ok (repeat_exact count encoded_str_exact) (row_size dotted_size 0) s start e in
      let w = row_some encoded_str_parser count start (drop start s) h q.reads in
      let z : l ≡ named_size q.value + 1 = q.long ∙ ap (row_size dotted_size 0) w.2 ∙ named_size_law w.0 w.1 ∙ ap (λ x. named_size x + 1) (sym w.2) in
      let y : l - 1 ≡ named_size q.value = omega arith in
      ap (λ m. long_at n m) y ∙ sym (ap (measured named_size) q.reads)

module _ (s : List ℕ) (at : ℕ) {x : Outcome (ℕ × ℕ) Refusal} (e : num_of s x ≡ number 8 at (drop at s)) where
  pub nameless_fault : {f : Refusal} → x ≡ Err f → Err f ≡ measured nameless_size (number 8 at (drop at s))
  unfolding measured
  nameless_fault z = ap (measured nameless_size) (sym (ap (num_of s) z) ∙ e)

  pub nameless_next : {n i l : ℕ} → x ≡ Ok (n, i) → l ≡ length (id_text (nameless n)) → long_at i l ≡ measured nameless_size (number 8 at (drop at s))
  unfolding measured
  nameless_next {i = i} z h = ap (λ m. long_at i m) h ∙ ap (measured nameless_size) (sym (ap (num_of s) z) ∙ e)

pub id_fault : (s : List ℕ) (at : ℕ) {f : Refusal} → number 1 at (drop at s) ≡ fault (fault_is f) → Err f ≡ measured id_size (id_parser at (drop at s))
unfolding measured id_parser
id_fault s at e = sym (ap (measured id_size) (bind_fault (number 1) _ e))

module _ (s : List ℕ) (at n next : ℕ) (e : number 1 at (drop at s) ≡ ok n next (drop next s)) where
  pub id_nameless : n ≡ 0xff → measured nameless_size (number 8 next (drop next s)) ≡ measured id_size (id_parser at (drop at s))
  unfolding id_parser
  id_nameless h =
      sym (ap (measured id_size) (bind_ok (number 1) _ e ∙ ap (λ (b : Bool). cond b (nameless <$> le_u64) (named <$> repeat n encoded_str_parser) next (drop next s)) (eq-eqb n 0xff h))
      ∙ measured_map id_size nameless le_u64 next (drop next s))

  pub id_named : (n ≡ 0xff → ⊥) → measured named_size (repeat n encoded_str_parser next (drop next s)) ≡ measured id_size (id_parser at (drop at s))
  unfolding id_parser
  id_named h =
      sym (ap (measured id_size) (bind_ok (number 1) _ e ∙ ap (λ (b : Bool). cond b (nameless <$> le_u64) (named <$> repeat n encoded_str_parser) next (drop next s)) (ne_eqb n 0xff h))
      ∙ measured_map id_size named (repeat n encoded_str_parser) next (drop next s))

  pub id_none : n ≡ 0 → long_at next 4 ≡ measured id_size (id_parser at (drop at s))
  unfolding measured repeat success id_text
  id_none h = sym (ap (λ c. measured named_size (repeat c encoded_str_parser next (drop next s))) h) ∙ id_named (λ z. omega arith)
