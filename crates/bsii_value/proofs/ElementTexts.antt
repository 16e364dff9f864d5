-- Elements by their own bytes, and texts that need no enum list.
use mathlib.Core.Path.{◌≡◌, refl, sym, ap, ◌∙◌, subst}
use Prim.Native.Nat.{ℕ, ◌-◌}
use native.Mathlib.Omega.{arith}
use mathlib.Core.Bool.{Bool, true, false}
use mathlib.Core.Option.{some}
use mathlib.Core.List.{List, []}
use lib.Dec.{T}
use lib.ListN.{length, take, drop}
use lib.Seq.{take_at}
use Rattle.bsii_format.specs.Reader.{ok, Reader, WellFormed}
use Rattle.bsii_format.specs.Types.{Numeric, float, float_vec2, float_vec3, float_vec4, float_vec7, float_vec8, int32, int32_vec3, uint32, uint16, int64, uint64, bool, enum}
use Rattle.bsii_format.specs.Prototypes.{EnumValue}
use Rattle.bsii_format.specs.Text.{numeric_text}
use Rattle.bsii_format.proofs.Readers.{Exact, fits_well_formed}
use Rattle.bsii_value.specs.Kinds.{numeric_is}
use Rattle.bsii_value.specs.declared.types.Numeric.{Numeric as Number}
use Rattle.bsii_value.specs.declared.types.Numeric.TheVariants.{Float, FloatVec2, FloatVec3, FloatVec4, FloatVec7, FloatVec8, Int32, Int32Vec3, UInt32, UInt16, Int64, UInt64, Bool as Truth, Enum}

pub own_bytes : {A : Type 0} {R : Reader A} → Exact A R → (s : List ℕ) (at : ℕ) {v : A} {n : ℕ} → R at (drop at s) ≡ ok v n (drop n s) → WellFormed R v (take (n - at) (drop at s))
own_bytes {A} {R} x s at {v} {n} e =
    let q = x.took at (drop at s) v n (drop n s) e in
    let size : length q.0 ≡ n - at = omega (arith, q.1.place) in
    let bytes : q.0 ≡ take (n - at) (drop at s) = sym (ap (take (n - at)) q.1.front ∙ take_at q.0 (drop n s) (n - at) size) in
    subst (WellFormed R v) bytes (fits_well_formed q.1.fits)

-- ---- numbers that are no enum

abbrev pub no_enum : Numeric → Bool
no_enum float = true
no_enum float_vec2 = true
no_enum float_vec3 = true
no_enum float_vec4 = true
no_enum float_vec7 = true
no_enum float_vec8 = true
no_enum int32 = true
no_enum int32_vec3 = true
no_enum uint32 = true
no_enum uint16 = true
no_enum int64 = true
no_enum uint64 = true
no_enum bool = true
no_enum enum = false

abbrev pub NoEnum : Numeric → Type 0
NoEnum k = T (no_enum k)

-- their text asks for no list
pub any_list : (k : Numeric) → NoEnum k → (enums : List EnumValue) (l : List ℕ) → (x : List ℕ) × (numeric_text [] k l ≡ some x) × (numeric_text enums k l ≡ some x)
unfolding numeric_text
any_list float h enums l = (_, refl, refl)
any_list float_vec2 h enums l = (_, refl, refl)
any_list float_vec3 h enums l = (_, refl, refl)
any_list float_vec4 h enums l = (_, refl, refl)
any_list float_vec7 h enums l = (_, refl, refl)
any_list float_vec8 h enums l = (_, refl, refl)
any_list int32 h enums l = (_, refl, refl)
any_list int32_vec3 h enums l = (_, refl, refl)
any_list uint32 h enums l = (_, refl, refl)
any_list uint16 h enums l = (_, refl, refl)
any_list int64 h enums l = (_, refl, refl)
any_list uint64 h enums l = (_, refl, refl)
any_list bool h enums l = (_, refl, refl)
any_list enum h enums l = absurd h

-- every case but the enum's
pub other : (n : Number) → (n ≡ Enum → ⊥) → NoEnum (numeric_is n)
other Enum h = absurd (h refl)
other Float h = tt
other FloatVec2 h = tt
other FloatVec3 h = tt
other FloatVec4 h = tt
other FloatVec7 h = tt
other FloatVec8 h = tt
other Int32 h = tt
other Int32Vec3 h = tt
other UInt32 h = tt
other UInt16 h = tt
other Int64 h = tt
other UInt64 h = tt
other Truth h = tt
