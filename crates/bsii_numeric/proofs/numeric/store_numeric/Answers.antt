-- With the kind known, numeric_text is the text of the numbers that the arm reads, and accepted bytes have no other numbers. An enum has no text with
-- the empty list, so nothing is asked of it.
use mathlib.Core.Path.{refl}
use mathlib.Core.List.{map}
use Prim.Native.Nat.{ℕ}
use native.Mathlib.Omega.{arith}
use Rattle.std.proofs.Common.{rules}
use Rattle.bsii_format.specs.Numbers.{signed}
use Rattle.bsii_format.specs.Types.{width, arity}
use Rattle.bsii_format.specs.Digits.{decimal_int}
use Rattle.bsii_format.specs.Floats.{float_text, vec7_text, placement_text}
use Rattle.bsii_format.specs.Text.{or_nil, bool_text, int32_text, numeric_text}
use Rattle.bsii_string.specs.NumbersAt.{numbers_at}
use Rattle.bsii_float.specs.Texts.{row_text, floats_text}
use Rattle.bsii_float.specs.declared.floats.Bits.{Bits}
use Rattle.bsii_float_text.proofs.TextLaws.{row_back, vec7_back, placement_back}
use Rattle.bsii_window.proofs.Stores.{stored_being}
use Rattle.bsii_numeric.proofs.NumericLaws.{accepted, unstored}
use Rattle.bsii_numeric.proofs.numeric.store_numeric.Goals as goal

pub returns-in-Float : goal.returns-in-Float
unfolding arity width numbers_at numeric_text
returns-in-Float c = accepted float_text c.in-Float.is c.u32_at.ensures refl c.store_float.ensures.0 (omega arith)

pub returns-in-FloatVec2 : goal.returns-in-FloatVec2
unfolding arity width numbers_at numeric_text
returns-in-FloatVec2 c =
    let v = c.bits_at-v in
    let back = row_back v.result c.floats_of.ensures (search rules) in
    accepted (λ (v : Bits 2). floats_text v.items) c.in-FloatVec2.is v.ensures refl (stored_being back c.store_floats.ensures.0) (omega arith)

pub returns-in-FloatVec3 : goal.returns-in-FloatVec3
unfolding arity width numbers_at numeric_text
returns-in-FloatVec3 c =
    let v = c.bits_at-v-in-FloatVec3 in
    let back = row_back v.result c.floats_of-in-FloatVec3.ensures (search rules) in
    accepted (λ (v : Bits 3). floats_text v.items) c.in-FloatVec3.is v.ensures refl (stored_being back c.store_floats-in-FloatVec3.ensures.0) (omega arith)

pub returns-in-FloatVec4 : goal.returns-in-FloatVec4
unfolding arity width numbers_at numeric_text
returns-in-FloatVec4 c =
    let v = c.bits_at-v-in-FloatVec4 in
    let back = row_back v.result c.floats_of-in-FloatVec4.ensures (search rules) in
    accepted (λ (v : Bits 4). floats_text v.items) c.in-FloatVec4.is v.ensures refl (stored_being back c.store_floats-in-FloatVec4.ensures.0) (omega arith)

pub returns-in-FloatVec7 : goal.returns-in-FloatVec7
unfolding arity width numbers_at numeric_text
returns-in-FloatVec7 c =
    let v = c.bits_at-v-in-FloatVec7 in
    let back = vec7_back v.result c.floats_of-in-FloatVec7.ensures (search rules) (search rules) in
    accepted (λ (v : Bits 7). vec7_text v.items) c.in-FloatVec7.is v.ensures refl (stored_being back c.store_vec7.ensures.0) (omega arith)

pub returns-in-FloatVec8 : goal.returns-in-FloatVec8
unfolding arity width numbers_at numeric_text
returns-in-FloatVec8 c =
    let v = c.bits_at-v-in-FloatVec8 in
    let back = placement_back v.result c.floats_of-in-FloatVec8.ensures (search rules) (search rules) in
    accepted (λ (v : Bits 8). placement_text v.items) c.in-FloatVec8.is v.ensures refl (stored_being back c.store_placement.ensures.0) (omega arith)

pub returns-in-Int32 : goal.returns-in-Int32
unfolding arity width numbers_at numeric_text
returns-in-Int32 c = accepted int32_text c.in-Int32.is c.u32_at-in-Int32.ensures refl c.store_i32.ensures.0 (omega arith)

pub returns-in-Int32Vec3 : goal.returns-in-Int32Vec3
unfolding arity width numbers_at numeric_text
returns-in-Int32Vec3 c = accepted (λ (v : Bits 3). row_text (map int32_text v.items)) c.in-Int32Vec3.is c.bits_at.ensures refl c.store_int_vec3.ensures.0 (omega arith)

pub returns-in-UInt32 : goal.returns-in-UInt32
unfolding arity width numbers_at numeric_text
returns-in-UInt32 c = accepted (or_nil 0xffff_ffff) c.in-UInt32.is c.u32_at-in-UInt32.ensures refl c.store_or_nil.ensures.0 (omega arith)

pub returns-in-UInt16 : goal.returns-in-UInt16
unfolding arity width numbers_at numeric_text
returns-in-UInt16 c = accepted (or_nil 0xffff) c.in-UInt16.is c.u16_at.ensures refl c.store_or_nil-in-UInt16.ensures.0 (omega arith)

pub returns-in-Int64 : goal.returns-in-Int64
unfolding arity width numbers_at numeric_text
returns-in-Int64 c = accepted (λ (n : ℕ). decimal_int (signed 0x8000_0000_0000_0000 n)) c.in-Int64.is c.u64_at.ensures refl c.store_i64.ensures.0 (omega arith)

pub returns-in-UInt64 : goal.returns-in-UInt64
unfolding arity width numbers_at numeric_text
returns-in-UInt64 c = accepted (or_nil 0xffff_ffff_ffff_ffff) c.in-UInt64.is c.u64_at-in-UInt64.ensures refl c.store_or_nil-in-UInt64.ensures.0 (omega arith)

pub returns-in-Bool : goal.returns-in-Bool
unfolding arity width numbers_at numeric_text
returns-in-Bool c = accepted bool_text c.in-Bool.is c.u8_at.ensures refl c.store_bool.ensures.0 (omega arith)

pub returns-in-Enum : goal.returns-in-Enum
returns-in-Enum c = unstored c.in-Enum.is
