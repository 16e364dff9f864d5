-- The table of types against the code's match, and the numeric kinds by number.
use mathlib.Core.Path.{◌≡◌, refl, sym, ap, ◌∙◌}
use Prim.Native.Nat.{ℕ}
use mathlib.Core.Option.{none}
use mathlib.Core.List.{List, [], ◌∷◌}
use lib.ListN.{get_or}
use lib.Dec.{T, eqb, eqb→eq}
use borrow.Author.Tests.{ne_eqb}
use types.Run.{OneOf}
use denote.Enum.Declared.{tag_of}
use Rattle.bsii_format.specs.Types as table
use Rattle.bsii_format.specs.Types.{Listed, shape_in}
use Rattle.bsii_string.proofs.Keys.{every, keyed}
use Rattle.bsii_value.specs.Kinds.{numeric_is}
use Rattle.bsii_value.specs.declared.types.Numeric.{Numeric}
use Rattle.bsii_value.specs.declared.types.Numeric.TheVariants.{Float, FloatVec2, FloatVec3, FloatVec4, FloatVec7, FloatVec8, Int32, Int32Vec3, UInt32, UInt16, Int64, UInt64, Bool as Bool1, Enum}
use Rattle.bsii_value.specs.contracts.types.Numeric.{the_type}

-- ---- a type that no row has

-- what the last arm of a match knows: the number is none of the rows'
abbrev pub Rest : Type 0 → List Listed → ℕ → Type 0
Rest N [] t = N
Rest N (r ∷ l) t = Rest (N × (t ≡ r.type_id → ⊥)) l t

first : (N : Type 0) (l : List Listed) (t : ℕ) → Rest N l t → N
first N [] t h = h
first N (r ∷ l) t h = (first (N × (t ≡ r.type_id → ⊥)) l t h).0

pub absent : (N : Type 0) (l : List Listed) (t : ℕ) → Rest N l t → shape_in l t ≡ none
unfolding shape_in
absent N [] t h = refl
absent N (r ∷ l) t h =
    rw (ne_eqb t r.type_id (first (N × (t ≡ r.type_id → ⊥)) l t h).1) (absent (N × (t ≡ r.type_id → ⊥)) l t h)

-- ---- numeric kinds by their number

unfoldable pub numerics : List table.Numeric
numerics =
    table.float ∷
    table.float_vec2 ∷
    table.float_vec3 ∷
    table.float_vec4 ∷
    table.float_vec7 ∷
    table.float_vec8 ∷
    table.int32 ∷
    table.int32_vec3 ∷
    table.uint32 ∷
    table.uint16 ∷
    table.int64 ∷
    table.uint64 ∷
    table.bool ∷
    table.enum ∷ []

numbered : (n : Numeric) → numeric_is n ≡ get_or numerics (tag_of the_type n) table.float
unfolding numerics
numbered Float = refl
numbered FloatVec2 = refl
numbered FloatVec3 = refl
numbered FloatVec4 = refl
numbered FloatVec7 = refl
numbered FloatVec8 = refl
numbered Int32 = refl
numbered Int32Vec3 = refl
numbered UInt32 = refl
numbered UInt16 = refl
numbered Int64 = refl
numbered UInt64 = refl
numbered Bool1 = refl
numbered Enum = refl

-- f is v at each of the kinds that one arm of a match stands for
pub arm : (f : table.Numeric → ℕ) (v : ℕ) (l : List ℕ) (n : Numeric) → T (every (λ x. eqb v (f (get_or numerics x table.float))) l) → OneOf l (tag_of the_type n) → v ≡ f (numeric_is n)
arm f v l n t o =
    eqb→eq v (f (get_or numerics (tag_of the_type n) table.float)) (keyed (λ x. eqb v (f (get_or numerics x table.float))) l (tag_of the_type n) t o) ∙ ap f (sym (numbered n))
