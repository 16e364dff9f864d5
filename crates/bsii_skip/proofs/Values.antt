-- The unchecked readers follow the format's: a line for each kind.
use mathlib.Core.Path.{◌≡◌, sym}
use Prim.Native.Nat.{ℕ}
use mathlib.Core.Option.{Option, none, some}
use mathlib.Core.List.{List}
use lib.Dec.{eqb}
use Rattle.bsii_format.specs.Replies.{zero_digit, unlisted_type}
use Rattle.bsii_format.specs.Reader.{Reader, ok, repeat}
use Rattle.bsii_format.specs.Numbers.{number}
use Rattle.bsii_format.specs.Strings.{str_parser, spelled, low63, encoded_str_parser, Id, nameless, named, id_parser}
use Rattle.bsii_format.specs.Types.{width, arity, Kind, numbers, string, encoded_string, id, Shape, one, many, shape_of}
use Rattle.bsii_format.specs.Values.{Element, nums, str, word, ident, Value, single, array, element_parser, shape_parser, value_parser}
use Rattle.bsii_format.proofs.Follows.{Follows, Any, ends, itself, map_follows, follows_map, consumed_follows, verify_follows, fail_follows, bind_same, cond_follows, repeat_follows}
use Rattle.bsii_string.specs.Answers.{end_of, unchecked_str}
use Rattle.std.specs.Prelude.{Ok}
use Rattle.bsii_string.proofs.Ends.{answer}
use Rattle.bsii_string.proofs.Unchecked.{str_follows}
use Rattle.bsii_skip.specs.Unchecked.{skip, unchecked_word, unchecked_id, unchecked_element, unchecked_array, unchecked_shape, unchecked_value}

-- the answer of a walk without the checks
pub next : {A B : Type 0} {K : A → B → Type 0} {R : Reader A} {S : Reader B} → Follows K R S → (at : ℕ) (s : List ℕ) {v : A} {n : ℕ} {r : List ℕ} → R at s ≡ ok v n r
    → end_of (S at s) ≡ Ok n
unfolding end_of
next {S = S} h at s {n = n} {r = r} e = sym (answer (S at s) (ok tt n r) (ends h at s e))

follows_skip : {A B : Type 0} {K : A → B → Type 0} {R : Reader A} {S : Reader B} → Follows K R S → Follows Any R (skip S)
unfolding skip
follows_skip h = follows_map h _

pub word_follows : Follows Any encoded_str_parser unchecked_word
unfolding encoded_str_parser
word_follows = verify_follows (map_follows (itself (number 8)) low63) spelled zero_digit

pub id_follows : Follows Any id_parser unchecked_id
unfolding id_parser unchecked_id
id_follows =
    bind_same (itself (number 1))
    (λ n. cond_follows (eqb n 0xff) (map_follows (follows_skip (itself (number 8))) nameless) (map_follows (follows_skip (repeat_follows n word_follows)) named))

pub element_follows : (k : Kind) → Follows Any (element_parser k) (unchecked_element k)
unfolding element_parser unchecked_element
element_follows (numbers k) = map_follows (follows_skip (itself (repeat (arity k) (number (width k))))) (nums k)
element_follows string = map_follows (follows_skip str_follows) str
element_follows encoded_string = map_follows (follows_skip word_follows) word
element_follows id = map_follows id_follows ident

pub shape_follows : (o : Option Shape) → Follows Any (shape_parser o) (unchecked_shape o)
unfolding shape_parser unchecked_shape unchecked_array
shape_follows none = fail_follows unlisted_type _
shape_follows (some (one k)) = map_follows (consumed_follows (element_follows k)) single
shape_follows (some (many k)) = map_follows (bind_same (itself (number 4)) (λ n. follows_skip (repeat_follows n (consumed_follows (element_follows k))))) array

pub value_follows : (version t : ℕ) → Follows Any (value_parser version t) (unchecked_value version t)
unfolding value_parser unchecked_value
value_follows version t = shape_follows (shape_of version t)

-- ---- the answers

pub str_same : (at : ℕ) (s : List ℕ) {v : List ℕ} {n : ℕ} {r : List ℕ} → str_parser at s ≡ ok v n r → end_of (unchecked_str at s) ≡ Ok n
str_same = next str_follows

pub id_same : (at : ℕ) (s : List ℕ) {v : Id} {n : ℕ} {r : List ℕ} → id_parser at s ≡ ok v n r → end_of (unchecked_id at s) ≡ Ok n
id_same = next id_follows

pub element_same : (k : Kind) (at : ℕ) (s : List ℕ) {v : Element} {n : ℕ} {r : List ℕ} → element_parser k at s ≡ ok v n r → end_of (unchecked_element k at s) ≡ Ok n
element_same k = next (element_follows k)

pub elements_same : (k : Kind) (m at : ℕ) (s : List ℕ) {v : List Element} {n : ℕ} {r : List ℕ} → repeat m (element_parser k) at s ≡ ok v n r
    → end_of (repeat m (unchecked_element k) at s) ≡ Ok n
elements_same k m = next (repeat_follows m (element_follows k))

pub value_same : (version t at : ℕ) (s : List ℕ) {v : Value} {n : ℕ} {r : List ℕ} → value_parser version t at s ≡ ok v n r
    → end_of (unchecked_value version t at s) ≡ Ok n
value_same version t = next (value_follows version t)
