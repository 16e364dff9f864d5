-- Elements and arrays of them: where they end.
use mathlib.Core.Path.{◌≡◌, sym, ap, ◌∙◌}
use Prim.Native.Nat.{ℕ, ◌*◌}
use mathlib.Core.Option.{Option, some}
use mathlib.Core.List.{List}
use Rattle.bsii_format.specs.Replies.{Fault}
use Rattle.bsii_format.specs.Reader.{ok, fault, repeat, consumed, ◌>>=◌, ◌<$>◌}
use Rattle.bsii_format.specs.Numbers.{number}
use Rattle.bsii_format.specs.Types.{Numeric, width, arity, Kind, numbers, Shape, one, many, shape_of}
use Rattle.bsii_format.specs.Values.{nums, single, array, element_parser, shape_parser, value_parser}
use Rattle.bsii_format.proofs.Readers.{map_fault}
use Rattle.bsii_format.proofs.Positions.{ended, bind_ok, bind_fault, ended_map, ended_consumed, ended_repeat, repeat_repeat}
use Rattle.bsii_string.specs.Answers.{end_of}
use Rattle.bsii_string.proofs.Ends.{alike}

numbers_ended : (k : Numeric) (at : ℕ) (s : List ℕ) → ended (element_parser (numbers k) at s) ≡ ended (repeat (arity k) (number (width k)) at s)
unfolding element_parser
numbers_ended k at s = ended_map (nums k) (repeat (arity k) (number (width k))) at s

pub numbers_end : (k : Numeric) (at : ℕ) (s : List ℕ) → end_of (element_parser (numbers k) at s) ≡ end_of (repeat (arity k) (number (width k)) at s)
numbers_end k at s = alike (element_parser (numbers k) at s) (repeat (arity k) (number (width k)) at s) (numbers_ended k at s)

pub one_end : (k : Kind) (at : ℕ) (s : List ℕ) → end_of (shape_parser (some (one k)) at s) ≡ end_of (element_parser k at s)
unfolding shape_parser
one_end k at s =
    alike ((single <$> consumed (element_parser k)) at s) (element_parser k at s) (ended_map single (consumed (element_parser k)) at s ∙ ended_consumed (element_parser k) at s)

-- a value of a type with a single element
pub one_value : (version type : ℕ) {k : Kind} (at : ℕ) (s : List ℕ) → some (one k) ≡ shape_of version type
    → end_of (element_parser k at s) ≡ end_of (value_parser version type at s)
unfolding value_parser
one_value version type {k} at s e = sym (one_end k at s) ∙ ap (λ (o : Option Shape). end_of (shape_parser o at s)) e

pub many_short : (k : Kind) (at : ℕ) (s : List ℕ) {x : Fault} → number 4 at s ≡ fault x → shape_parser (some (many k)) at s ≡ fault x
unfolding shape_parser
many_short k at s e = map_fault array _ at s (bind_fault (number 4) _ e)

module _ (at : ℕ) (s : List ℕ) (n next : ℕ) (r : List ℕ) (e : number 4 at s ≡ ok n next r) where
  many_ended : (k : Kind) → ended (shape_parser (some (many k)) at s) ≡ ended (repeat n (element_parser k) next r)
  unfolding shape_parser
  many_ended k =
      ended_map array (number 4 >>= (λ n. repeat n (consumed (element_parser k)))) at s
      ∙ ap ended (bind_ok (number 4) (λ n. repeat n (consumed (element_parser k))) e)
      ∙ ended_repeat n (consumed (element_parser k)) (element_parser k) (ended_consumed (element_parser k)) next r

  pub many_end : (k : Kind) → end_of (shape_parser (some (many k)) at s) ≡ end_of (repeat n (element_parser k) next r)
  many_end k = alike (shape_parser (some (many k)) at s) (repeat n (element_parser k) next r) (many_ended k)

  -- n elements of a numbers are n * a numbers
  pub many_numbers : (k : Numeric) → end_of (shape_parser (some (many (numbers k))) at s) ≡ end_of (repeat (n * arity k) (number (width k)) next r)
  many_numbers k =
      alike (shape_parser (some (many (numbers k))) at s) (repeat (n * arity k) (number (width k)) next r)
      (many_ended (numbers k)
      ∙ ended_repeat n (element_parser (numbers k)) (repeat (arity k) (number (width k))) (numbers_ended k) next r
      ∙ repeat_repeat (number (width k)) n (arity k) next r)
