-- Where the unchecked readers end: what the code's proofs share.
use mathlib.Core.Path.{◌≡◌, sym, ap, ◌∙◌}
use Prim.Native.Nat.{ℕ, ◌*◌}
use mathlib.Core.Bool.{Bool, true, false, cond}
use mathlib.Core.List.{List, [], ◌∷◌}
use lib.Dec.{eqb}
use borrow.Author.Tests.{eq-eqb, ne_eqb}
use Rattle.bsii_format.specs.Replies.{Fault}
use Rattle.bsii_format.specs.Reader.{Reader, ok, fault, after, success, repeat, ◌>>=◌, ◌<$>◌}
use Rattle.bsii_format.specs.Numbers.{number, le_u64}
use Rattle.bsii_format.specs.Types.{Numeric, width, arity, Kind, numbers, string, encoded_string}
use Rattle.bsii_format.specs.Values.{element_parser}
use Rattle.bsii_format.proofs.Positions.{ended, bind_ok, bind_fault, ended_map, ended_repeat, repeat_repeat}
use Rattle.bsii_string.specs.Answers.{end_of, unchecked_str}
use Rattle.bsii_string.proofs.Ends.{alike}
use Rattle.bsii_value.proofs.Elements.{numbers_end}
use Rattle.bsii_skip.specs.Unchecked.{skip, unchecked_word, unchecked_id, unchecked_element, unchecked_array}

-- ---- ends without values

skip_ended : {A : Type 0} (R : Reader A) (at : ℕ) (s : List ℕ) → ended (skip R at s) ≡ ended (R at s)
unfolding skip
skip_ended R at s = ended_map _ R at s

skip_end : {A : Type 0} (R : Reader A) (at : ℕ) (s : List ℕ) → end_of (skip R at s) ≡ end_of (R at s)
skip_end R at s = alike (skip R at s) (R at s) (skip_ended R at s)

numbers_ended : (k : Numeric) (at : ℕ) (s : List ℕ) → ended (unchecked_element (numbers k) at s) ≡ ended (repeat (arity k) (number (width k)) at s)
unfolding unchecked_element
numbers_ended k at s = skip_ended (repeat (arity k) (number (width k))) at s

word_ended : (at : ℕ) (s : List ℕ) → ended (unchecked_element encoded_string at s) ≡ ended (number 8 at s)
unfolding unchecked_element
word_ended at s = skip_ended (number 8) at s

-- numbers have nothing that could be left unchecked
pub numbers_same : (k : Numeric) (at : ℕ) (s : List ℕ) → end_of (element_parser (numbers k) at s) ≡ end_of (unchecked_element (numbers k) at s)
numbers_same k at s =
    numbers_end k at s ∙ sym (alike (unchecked_element (numbers k) at s) (repeat (arity k) (number (width k)) at s) (numbers_ended k at s))

pub string_end : (at : ℕ) (s : List ℕ) → end_of (unchecked_element string at s) ≡ end_of (unchecked_str at s)
unfolding unchecked_element
string_end at s = skip_end unchecked_str at s

-- ---- rows whose elements have one length

-- n elements of a numbers are n * a numbers
pub numbers_row : (k : Numeric) (n at : ℕ) (s : List ℕ) → end_of (repeat n (unchecked_element (numbers k)) at s) ≡ end_of (repeat (n * arity k) (number (width k)) at s)
numbers_row k n at s =
    alike (repeat n (unchecked_element (numbers k)) at s) (repeat (n * arity k) (number (width k)) at s)
    (ended_repeat n (unchecked_element (numbers k)) (repeat (arity k) (number (width k))) (numbers_ended k) at s ∙ repeat_repeat (number (width k)) n (arity k) at s)

pub words_row : (n at : ℕ) (s : List ℕ) → end_of (repeat n (unchecked_element encoded_string) at s) ≡ end_of (repeat n (number 8) at s)
words_row n at s =
    alike (repeat n (unchecked_element encoded_string) at s) (repeat n (number 8) at s) (ended_repeat n (unchecked_element encoded_string) (number 8) word_ended at s)

-- ---- a row of one

once : {A : Type 0} (R : Reader A) (at : ℕ) (s : List ℕ) → ended (repeat 1 R at s) ≡ ended (R at s)
unfolding repeat ◌<$>◌ ◌>>=◌ after success
once R at s = ended_map (λ a. a ∷ []) R at s

pub word_once : (at : ℕ) (s : List ℕ) → end_of (unchecked_element encoded_string at s) ≡ end_of (repeat 1 (number 8) at s)
word_once at s =
    alike (unchecked_element encoded_string at s) (repeat 1 (number 8) at s) (word_ended at s ∙ sym (once (number 8) at s))

-- ---- ids and arrays, once their first number is read

module _ (s : List ℕ) (at : ℕ) {x : Fault} where
  pub id_short : number 1 at s ≡ fault x → unchecked_id at s ≡ fault x
  unfolding unchecked_id
  id_short e = bind_fault (number 1) _ e

  pub array_short : (k : Kind) → number 4 at s ≡ fault x → unchecked_array k at s ≡ fault x
  unfolding unchecked_array
  array_short k e = bind_fault (number 4) _ e

pub array_end : (s : List ℕ) (at n next : ℕ) (r : List ℕ) (k : Kind) → number 4 at s ≡ ok n next r → end_of (unchecked_array k at s) ≡ end_of (repeat n (unchecked_element k) next r)
unfolding unchecked_array
array_end s at n next r k e = ap end_of (bind_ok (number 4) (λ n. skip (repeat n (unchecked_element k))) e) ∙ skip_end (repeat n (unchecked_element k)) next r

-- what follows an id's first byte
body : ℕ → Reader (Unit {0})
body n = cond (eqb n 0xff) (skip le_u64) (skip (repeat n unchecked_word))

module _ (s : List ℕ) (at n next : ℕ) (r : List ℕ) (e : number 1 at s ≡ ok n next r) where
  id_body : (b : Bool) → eqb n 0xff ≡ b → unchecked_id at s ≡ cond b (skip le_u64) (skip (repeat n unchecked_word)) next r
  unfolding unchecked_id body
  id_body b h = bind_ok (number 1) body e ∙ ap (λ (b : Bool). cond b (skip le_u64) (skip (repeat n unchecked_word)) next r) h

  pub id_nameless : n ≡ 0xff → end_of (unchecked_id at s) ≡ end_of (repeat 1 (number 8) next r)
  id_nameless h =
      ap end_of (id_body true (eq-eqb n 0xff h))
      ∙ alike (skip le_u64 next r) (repeat 1 (number 8) next r) (skip_ended le_u64 next r ∙ sym (once (number 8) next r))

  pub id_named : (n ≡ 0xff → ⊥) → end_of (unchecked_id at s) ≡ end_of (repeat n (number 8) next r)
  id_named h = ap end_of (id_body false (ne_eqb n 0xff h)) ∙ skip_end (repeat n unchecked_word) next r
