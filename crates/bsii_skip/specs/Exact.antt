-- The unchecked readers are exact too: what they pass they took from the front of the bytes.
use Prim.Native.Nat.{ℕ}
use mathlib.Core.Option.{Option, none, some}
use lib.Dec.{eqb}
use Rattle.bsii_format.specs.Replies.{unlisted_type}
use Rattle.bsii_format.specs.Reader.{Reader}
use Rattle.bsii_format.specs.Types.{width, arity, Kind, numbers, string, encoded_string, id, Shape, one, many, shape_of}
use Rattle.bsii_format.proofs.Readers.{Exact, bind_exact, fail_exact, map_exact, repeat_exact, cond_exact}
use Rattle.bsii_format.proofs.Parsers.{number_exact}
use Rattle.bsii_string.proofs.Unchecked.{unchecked_str_exact}
use Rattle.bsii_skip.specs.Unchecked.{skip, unchecked_id, unchecked_element, unchecked_array, unchecked_shape, unchecked_value}

skip_exact : {A : Type 0} {R : Reader A} → Exact A R → Exact (Unit {0}) (skip R)
unfolding skip
skip_exact h = map_exact _ h

pub unchecked_id_exact : Exact (Unit {0}) unchecked_id
unfolding unchecked_id
unchecked_id_exact =
    bind_exact _ (number_exact 1)
    (λ n. cond_exact (eqb n 0xff) (skip_exact (number_exact 8)) (skip_exact (repeat_exact n (number_exact 8))))

pub unchecked_element_exact : (k : Kind) → Exact (Unit {0}) (unchecked_element k)
unfolding unchecked_element
unchecked_element_exact (numbers k) = skip_exact (repeat_exact (arity k) (number_exact (width k)))
unchecked_element_exact string = skip_exact unchecked_str_exact
unchecked_element_exact encoded_string = skip_exact (number_exact 8)
unchecked_element_exact id = unchecked_id_exact

pub unchecked_shape_exact : (o : Option Shape) → Exact (Unit {0}) (unchecked_shape o)
unfolding unchecked_shape unchecked_array
unchecked_shape_exact none = fail_exact (Unit {0}) unlisted_type
unchecked_shape_exact (some (one k)) = unchecked_element_exact k
unchecked_shape_exact (some (many k)) = bind_exact _ (number_exact 4) (λ n. skip_exact (repeat_exact n (unchecked_element_exact k)))

pub unchecked_value_exact : (version t : ℕ) → Exact (Unit {0}) (unchecked_value version t)
unfolding unchecked_value
unchecked_value_exact version t = unchecked_shape_exact (shape_of version t)
