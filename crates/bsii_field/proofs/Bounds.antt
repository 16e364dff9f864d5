-- What is passed without a check, an element or a value, has a byte at least, and lies inside the file.
use mathlib.Core.Path.{◌≡◌, refl}
use Prim.Native.Nat.{ℕ, ◌≤◌, ◌<◌}
use mathlib.Core.Option.{Option, none, some}
use mathlib.Core.List.{List, []}
use lib.ListN.{length, drop}
use Rattle.bsii_format.specs.Replies.{unlisted_type, Fault, refused, short}
use Rattle.bsii_format.specs.Reader.{fault, after, ◌>>=◌, ◌<$>◌, fail, bytes, repeat}
use Rattle.bsii_format.specs.Numbers.{number}
use Rattle.bsii_format.specs.Types.{float, float_vec2, float_vec3, float_vec4, float_vec7, float_vec8, int32, int32_vec3, uint32, uint16, int64, uint64, bool, enum, width, arity, Kind, numbers, string, encoded_string, id, Shape, one, many, shape_of}
use Rattle.bsii_format.proofs.Positions.{moved_on}
use Rattle.bsii_string.specs.Answers.{end_of, unchecked_str}
use Rattle.bsii_prototype.proofs.Entries.{next_is}
use Rattle.bsii_skip.specs.Unchecked.{skip, unchecked_id, unchecked_element, unchecked_array, unchecked_shape, unchecked_value}
use Rattle.bsii_skip.specs.Exact.{unchecked_element_exact, unchecked_value_exact}
use Rattle.std.specs.Prelude.{Ok}

-- how many bytes its first item has
first : Kind → ℕ
first (numbers k) = width k
first string = 4
first encoded_string = 8
first id = 1

element_none : (k : Kind) → unchecked_element k 0 [] ≡ fault (short 0 (first k))
unfolding unchecked_element unchecked_id unchecked_str skip repeat number width arity bytes ◌<$>◌ ◌>>=◌ after first
element_none (numbers float) = refl
element_none (numbers float_vec2) = refl
element_none (numbers float_vec3) = refl
element_none (numbers float_vec4) = refl
element_none (numbers float_vec7) = refl
element_none (numbers float_vec8) = refl
element_none (numbers int32) = refl
element_none (numbers int32_vec3) = refl
element_none (numbers uint32) = refl
element_none (numbers uint16) = refl
element_none (numbers int64) = refl
element_none (numbers uint64) = refl
element_none (numbers bool) = refl
element_none (numbers enum) = refl
element_none string = refl
element_none encoded_string = refl
element_none id = refl

pub element_moves : (k : Kind) (s : List ℕ) (at : ℕ) {n : ℕ} → Ok n ≡ end_of (unchecked_element k at (drop at s)) → (at < n) × (n ≤ length s)
element_moves k s at e = moved_on (unchecked_element_exact k) (element_none k) s at (next_is (unchecked_element k at (drop at s)) e).2

shape_none : (o : Option Shape) → (f : Fault) × (unchecked_shape o 0 [] ≡ fault f)
unfolding unchecked_shape unchecked_array number bytes ◌<$>◌ ◌>>=◌ after fail
shape_none none = (refused unlisted_type 0, refl)
shape_none (some (one k)) = (short 0 (first k), element_none k)
shape_none (some (many k)) = (short 0 4, refl)

pub value_moves : (version t : ℕ) (s : List ℕ) (at : ℕ) {n : ℕ} → Ok n ≡ end_of (unchecked_value version t at (drop at s)) → (at < n) × (n ≤ length s)
unfolding unchecked_value
value_moves version t s at e =
    moved_on (unchecked_value_exact version t) (shape_none (shape_of version t)).1 s at (next_is (unchecked_value version t at (drop at s)) e).2
