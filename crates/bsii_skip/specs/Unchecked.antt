-- Values whose strings and words nobody checks, since they were checked before. Nothing is kept of them but where they end.
use Rattle.std.specs.Prelude.{ℕ, cond, eqb}
use Rattle.std.proofs.Math.Option.{Option, none, some}
use Rattle.bsii_format.specs.Replies.{unlisted_type}
use Rattle.bsii_format.specs.Reader.{Reader, fail, repeat, ◌>>=◌, ◌<$>◌}
use Rattle.bsii_format.specs.Numbers.{number, le_u8, le_u32, le_u64}
use Rattle.bsii_format.specs.Types.{width, arity, Kind, numbers, string, encoded_string, id, Shape, one, many, shape_of}
use Rattle.bsii_string.specs.Answers.{unchecked_str}

-- what R reads, without its value
unfoldable pub skip : {A : Type 0} → Reader A → Reader (Unit {0})
skip R = (λ a. tt) <$> R

abbrev pub unchecked_word : Reader ℕ
unchecked_word = le_u64

unfoldable pub unchecked_id : Reader (Unit {0})
unchecked_id = do
  n ← le_u8
  cond (eqb n 0xff) (skip le_u64) (skip (repeat n unchecked_word))

unfoldable pub unchecked_element : Kind → Reader (Unit {0})
unchecked_element (numbers k) = skip (repeat (arity k) (number (width k)))
unchecked_element string = skip unchecked_str
unchecked_element encoded_string = skip unchecked_word
unchecked_element id = unchecked_id

unfoldable pub unchecked_array : Kind → Reader (Unit {0})
unchecked_array k = le_u32 >>= (λ n. skip (repeat n (unchecked_element k)))

-- an unlisted type has no length that could be guessed, so it is refused here too
unfoldable pub unchecked_shape : Option Shape → Reader (Unit {0})
unchecked_shape none = fail unlisted_type
unchecked_shape (some (one k)) = unchecked_element k
unchecked_shape (some (many k)) = unchecked_array k

unfoldable pub unchecked_value : ℕ → ℕ → Reader (Unit {0})
unchecked_value version t = unchecked_shape (shape_of version t)
