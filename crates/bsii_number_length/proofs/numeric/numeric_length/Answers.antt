-- With the kind known, numeric_text is the text of the numbers that the arm reads, and accepted bytes have no other numbers. An enum has no text with
-- the empty list, so nothing is asked of it.
use mathlib.Core.Path.{refl}
use Prim.Native.Nat.{ℕ}
use mathlib.Core.List.{map}
use native.Mathlib.Omega.{arith}
use Rattle.bsii_format.specs.Numbers.{signed}
use Rattle.bsii_format.specs.Types.{width, arity}
use Rattle.bsii_format.specs.Digits.{decimal_int}
use Rattle.bsii_format.specs.Floats.{float_text, vec7_text, placement_text}
use Rattle.bsii_format.specs.Text.{or_nil, bool_text, int32_text, numeric_text}
use Rattle.bsii_string.specs.NumbersAt.{numbers_at}
use Rattle.bsii_float.specs.Texts.{row_text, floats_text}
use Rattle.bsii_float.specs.declared.floats.Bits.{Bits}
use Rattle.bsii_number_length.proofs.LengthLaws.{measured, unmeasured}
use Rattle.bsii_number_length.proofs.numeric.numeric_length.Goals as goal

pub returns-in-Float : goal.returns-in-Float
unfolding arity width numbers_at numeric_text
returns-in-Float c = measured float_text c.in-Float.is c.u32_at.ensures refl c.float_length.ensures.0 (omega arith)

pub returns-in-FloatVec2 : goal.returns-in-FloatVec2
unfolding arity width numbers_at numeric_text
returns-in-FloatVec2 c = measured (λ (v : Bits 2). floats_text v.items) c.in-FloatVec2.is c.bits_at.ensures refl c.floats_length.ensures.0 (omega arith)

pub returns-in-FloatVec3 : goal.returns-in-FloatVec3
unfolding arity width numbers_at numeric_text
returns-in-FloatVec3 c = measured (λ (v : Bits 3). floats_text v.items) c.in-FloatVec3.is c.bits_at-in-FloatVec3.ensures refl c.floats_length-in-FloatVec3.ensures.0 (omega arith)

pub returns-in-FloatVec4 : goal.returns-in-FloatVec4
unfolding arity width numbers_at numeric_text
returns-in-FloatVec4 c = measured (λ (v : Bits 4). floats_text v.items) c.in-FloatVec4.is c.bits_at-in-FloatVec4.ensures refl c.floats_length-in-FloatVec4.ensures.0 (omega arith)

pub returns-in-FloatVec7 : goal.returns-in-FloatVec7
unfolding arity width numbers_at numeric_text
returns-in-FloatVec7 c = measured (λ (v : Bits 7). vec7_text v.items) c.in-FloatVec7.is c.bits_at-in-FloatVec7.ensures refl c.vec7_length.ensures.0 (omega arith)

pub returns-in-FloatVec8 : goal.returns-in-FloatVec8
unfolding arity width numbers_at numeric_text
returns-in-FloatVec8 c = measured (λ (v : Bits 8). placement_text v.items) c.in-FloatVec8.is c.bits_at-in-FloatVec8.ensures refl c.placement_length.ensures.0 (omega arith)

pub returns-in-Int32 : goal.returns-in-Int32
unfolding arity width numbers_at numeric_text
returns-in-Int32 c = measured int32_text c.in-Int32.is c.u32_at-in-Int32.ensures refl c.i32_length.ensures.0 (omega arith)

pub returns-in-Int32Vec3 : goal.returns-in-Int32Vec3
unfolding arity width numbers_at numeric_text
returns-in-Int32Vec3 c = measured (λ (v : Bits 3). row_text (map int32_text v.items)) c.in-Int32Vec3.is c.bits_at-in-Int32Vec3.ensures refl c.int_vec3_length.ensures.0 (omega arith)

pub returns-in-UInt32 : goal.returns-in-UInt32
unfolding arity width numbers_at numeric_text
returns-in-UInt32 c = measured (or_nil 0xffff_ffff) c.in-UInt32.is c.u32_at-in-UInt32.ensures refl c.or_nil_length.ensures.0 (omega arith)

pub returns-in-UInt16 : goal.returns-in-UInt16
unfolding arity width numbers_at numeric_text
returns-in-UInt16 c = measured (or_nil 0xffff) c.in-UInt16.is c.u16_at.ensures refl c.or_nil_length-in-UInt16.ensures.0 (omega arith)

pub returns-in-Int64 : goal.returns-in-Int64
unfolding arity width numbers_at numeric_text
returns-in-Int64 c = measured (λ (n : ℕ). decimal_int (signed 0x8000_0000_0000_0000 n)) c.in-Int64.is c.u64_at.ensures refl c.i64_length.ensures.0 (omega arith)

pub returns-in-UInt64 : goal.returns-in-UInt64
unfolding arity width numbers_at numeric_text
returns-in-UInt64 c = measured (or_nil 0xffff_ffff_ffff_ffff) c.in-UInt64.is c.u64_at-in-UInt64.ensures refl c.or_nil_length-in-UInt64.ensures.0 (omega arith)

pub returns-in-Bool : goal.returns-in-Bool
unfolding arity width numbers_at numeric_text
returns-in-Bool c = measured bool_text c.in-Bool.is c.u8_at.ensures refl c.bool_length.ensures.0 (omega arith)

pub returns-in-Enum : goal.returns-in-Enum
returns-in-Enum c = unmeasured c.in-Enum.is (omega arith)
