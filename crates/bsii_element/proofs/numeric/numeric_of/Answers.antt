-- With the kind known, arity and width say which numbers numbers_at reads from 0 on: they are those that the arm's reader takes, and numeric_datum
-- makes of them what the arm's conversion does. A signed number fits its type, so storing it keeps it.
use mathlib.Core.Path.{◌≡◌, refl, sym, ap, ◌∙◌}
use Prim.Native.Nat.{ℕ, zero, suc}
use mathlib.Core.Bool.{Bool, not}
use mathlib.Core.List.{List}
use lib.Dec.{eqb, eqb-suc-zero}
use lib.IntN.{ℤ}
use lib.Ieee.{Float, binary32, of_bits}
use mir.Syntax.{w32, w64}
use mir.Facts.{to_z-of_z}
use Rattle.bsii_format.specs.Numbers.{signed}
use Rattle.bsii_format.specs.Types.{width, arity}
use Rattle.bsii_format.specs.Calls.{Datum, d_float, d_int32, d_uint32, d_uint16, d_int64, d_uint64, d_bool, d_enum, nonzero, numeric_datum}
use Rattle.bsii_value.specs.Kinds.{numeric_is}
use Rattle.bsii_string.specs.NumbersAt.{numbers_at}
use Rattle.bsii_value.specs.declared.types.Numeric.{Numeric}
use Rattle.bsii_float.specs.Bits.{floats_of}
use Rattle.bsii_float.specs.declared.floats.Floats.{Floats}
use Rattle.bsii_float.specs.declared.floats.Bits.{Bits}
use Rattle.bsii_element.specs.Cases.{datum_is, int3_of}
use Rattle.bsii_element.specs.declared.answers.Int3.{Int3}
use Rattle.bsii_element.specs.declared.answers.Element.{Element}
use Rattle.bsii_element.specs.declared.answers.Element.TheVariants.{FloatVec2, FloatVec3, FloatVec4, FloatVec7, FloatVec8, Int32Vec3}
use Rattle.bsii_element.proofs.SignedBits.{signed_is}
use Rattle.bsii_element.proofs.numeric.numeric_of.Goals as goal

abbrev Answer : List ℕ → Numeric → Datum
Answer s n = numeric_datum (numeric_is n) (numbers_at (arity (numeric_is n)) (width (numeric_is n)) s 0)

nonzero_is : (n : ℕ) → not (eqb n 0) ≡ nonzero n
unfolding nonzero
nonzero_is zero = refl
nonzero_is (suc n) = ap not (eqb-suc-zero n)

-- A vector of any number of floats is the element of the floats of its bits.
floats_are : {n : ℕ} (make : Floats n → Element) {v : Floats n} {b bits : Bits n} → v ≡ floats_of b → b ≡ bits → datum_is (make v) ≡ datum_is (make (floats_of bits))
floats_are make f b = ap (λ v. datum_is (make v)) (f ∙ ap floats_of b)

pub returns-in-Float : goal.returns-in-Float
unfolding arity width numeric_datum numbers_at
returns-in-Float c =
    let a = c.args in
    ap (λ (x : Float). d_float x) (c.float_of.ensures ∙ ap (of_bits binary32) c.u32_at.ensures) ∙ ap (Answer a.raw.now) (sym c.in-Float.is)

pub returns-in-FloatVec2 : goal.returns-in-FloatVec2
unfolding arity width numeric_datum numbers_at
returns-in-FloatVec2 c = floats_are FloatVec2 c.floats_of.ensures c.bits_at.ensures ∙ ap (Answer c.args.raw.now) (sym c.in-FloatVec2.is)

pub returns-in-FloatVec3 : goal.returns-in-FloatVec3
unfolding arity width numeric_datum numbers_at
returns-in-FloatVec3 c = floats_are FloatVec3 c.floats_of-in-FloatVec3.ensures c.bits_at-in-FloatVec3.ensures ∙ ap (Answer c.args.raw.now) (sym c.in-FloatVec3.is)

pub returns-in-FloatVec4 : goal.returns-in-FloatVec4
unfolding arity width numeric_datum numbers_at
returns-in-FloatVec4 c = floats_are FloatVec4 c.floats_of-in-FloatVec4.ensures c.bits_at-in-FloatVec4.ensures ∙ ap (Answer c.args.raw.now) (sym c.in-FloatVec4.is)

pub returns-in-FloatVec7 : goal.returns-in-FloatVec7
unfolding arity width numeric_datum numbers_at
returns-in-FloatVec7 c = floats_are FloatVec7 c.floats_of-in-FloatVec7.ensures c.bits_at-in-FloatVec7.ensures ∙ ap (Answer c.args.raw.now) (sym c.in-FloatVec7.is)

pub returns-in-FloatVec8 : goal.returns-in-FloatVec8
unfolding arity width numeric_datum numbers_at
returns-in-FloatVec8 c = floats_are FloatVec8 c.floats_of-in-FloatVec8.ensures c.bits_at-in-FloatVec8.ensures ∙ ap (Answer c.args.raw.now) (sym c.in-FloatVec8.is)

pub returns-in-Int32 : goal.returns-in-Int32
unfolding arity width numeric_datum numbers_at
returns-in-Int32 c =
    let a = c.args in
    ap (λ (z : ℤ). d_int32 z) (to_z-of_z {w = w32} (record { sfits = c.cast_signed.type_inv }) ∙ c.cast_signed.ensures ∙ signed_is w32 c.u32_at-in-Int32.result c.u32_at-in-Int32.type_inv ∙ ap (signed 0x8000_0000) c.u32_at-in-Int32.ensures) ∙ ap (Answer a.raw.now) (sym c.in-Int32.is)

pub returns-in-Int32Vec3 : goal.returns-in-Int32Vec3
unfolding arity width numeric_datum numbers_at
returns-in-Int32Vec3 c =
    let a = c.args in
    ap (λ (v : Int3). datum_is (Int32Vec3 v)) (c.int3_of.ensures ∙ ap int3_of c.bits_at-in-Int32Vec3.ensures) ∙ ap (Answer a.raw.now) (sym c.in-Int32Vec3.is)

pub returns-in-UInt32 : goal.returns-in-UInt32
unfolding arity width numeric_datum numbers_at
returns-in-UInt32 c =
    let a = c.args in
    ap (λ (n : ℕ). d_uint32 n) c.u32_at-in-UInt32.ensures ∙ ap (Answer a.raw.now) (sym c.in-UInt32.is)

pub returns-in-UInt16 : goal.returns-in-UInt16
unfolding arity width numeric_datum numbers_at
returns-in-UInt16 c =
    let a = c.args in
    ap (λ (n : ℕ). d_uint16 n) c.u16_at.ensures ∙ ap (Answer a.raw.now) (sym c.in-UInt16.is)

pub returns-in-Int64 : goal.returns-in-Int64
unfolding arity width numeric_datum numbers_at
returns-in-Int64 c =
    let a = c.args in
    ap (λ (z : ℤ). d_int64 z) (to_z-of_z {w = w64} (record { sfits = c.cast_signed-in-Int64.type_inv }) ∙ c.cast_signed-in-Int64.ensures ∙ signed_is w64 c.u64_at.result c.u64_at.type_inv ∙ ap (signed 0x8000_0000_0000_0000) c.u64_at.ensures) ∙ ap (Answer a.raw.now) (sym c.in-Int64.is)

pub returns-in-UInt64 : goal.returns-in-UInt64
unfolding arity width numeric_datum numbers_at
returns-in-UInt64 c =
    let a = c.args in
    ap (λ (n : ℕ). d_uint64 n) c.u64_at-in-UInt64.ensures ∙ ap (Answer a.raw.now) (sym c.in-UInt64.is)

pub returns-in-Bool : goal.returns-in-Bool
unfolding arity width numeric_datum numbers_at
returns-in-Bool c =
    let a = c.args in
    ap (λ (b : Bool). d_bool b) (nonzero_is _ ∙ ap nonzero c.u8_at.ensures) ∙ ap (Answer a.raw.now) (sym c.in-Bool.is)

pub returns-in-Enum : goal.returns-in-Enum
unfolding arity width numeric_datum numbers_at
returns-in-Enum c =
    let a = c.args in
    ap (λ (n : ℕ). d_enum n) c.u32_at-in-Enum.ensures ∙ ap (Answer a.raw.now) (sym c.in-Enum.is)
