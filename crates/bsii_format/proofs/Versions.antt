-- Where versions differ: "Version 1 differs in 0x19 and 0x1a only", so all other types are read alike in every version, and all types in every version but 1.
use mathlib.Core.Path.{◌≡◌, refl, ap}
use Prim.Native.Nat.{ℕ}
use mathlib.Core.List.{List}
use borrow.Author.Tests.{ne_eqb}
use Rattle.bsii_format.specs.Types.{placement_in, type_table, shape_in, shape_of}
use Rattle.bsii_format.specs.Values.{shape_parser, value_parser}
use Rattle.bsii_format.specs.Calls.{of_value, element_call}

pub types_alike : (version other t : ℕ) → (t ≡ 0x19 → ⊥) → (t ≡ 0x1a → ⊥) → shape_of version t ≡ shape_of other t
unfolding shape_of shape_in type_table
types_alike version other t h k = rw (ne_eqb t 0x19 h, ne_eqb t 0x1a k)

pub versions_alike : (version other : ℕ) → (version ≡ 1 → ⊥) → (other ≡ 1 → ⊥) → shape_of version ≡ shape_of other
unfolding shape_of type_table placement_in
versions_alike version other h k = rw (ne_eqb version 1 h, ne_eqb other 1 k)

-- so the element call answers alike
pub elements_alike : (version other t : ℕ) → (t ≡ 0x19 → ⊥) → (t ≡ 0x1a → ⊥) → (s : List ℕ) (i : ℕ) → element_call version t s i ≡ element_call other t s i
unfolding element_call value_parser
elements_alike version other t h k s i = ap (λ o. of_value i (shape_parser o 0 s)) (types_alike version other t h k)
