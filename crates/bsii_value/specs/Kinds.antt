-- What the code's types mean: the kinds and shapes of the table of types.
use Rattle.std.proofs.Math.Option.{Option, none, some}
use Rattle.bsii_format.specs.Types as types
use Rattle.bsii_value.specs.declared.types.Numeric.{Numeric}
use Rattle.bsii_value.specs.declared.types.Numeric.TheVariants.{Float, FloatVec2, FloatVec3, FloatVec4, FloatVec7, FloatVec8, Int32, Int32Vec3, UInt32, UInt16, Int64, UInt64, Bool, Enum}
use Rattle.bsii_value.specs.declared.types.Kind.{Kind}
use Rattle.bsii_value.specs.declared.types.Kind.TheVariants.{Numbers, String, EncodedString, Id}
use Rattle.bsii_value.specs.declared.types.Shape.{Shape}
use Rattle.bsii_value.specs.declared.types.Shape.TheVariants.{One, Many}
use Rattle.std.specs.Prelude as std

abbrev pub numeric_is : Numeric → types.Numeric
numeric_is Float = types.float
numeric_is FloatVec2 = types.float_vec2
numeric_is FloatVec3 = types.float_vec3
numeric_is FloatVec4 = types.float_vec4
numeric_is FloatVec7 = types.float_vec7
numeric_is FloatVec8 = types.float_vec8
numeric_is Int32 = types.int32
numeric_is Int32Vec3 = types.int32_vec3
numeric_is UInt32 = types.uint32
numeric_is UInt16 = types.uint16
numeric_is Int64 = types.int64
numeric_is UInt64 = types.uint64
numeric_is Bool = types.bool
numeric_is Enum = types.enum

abbrev pub kind_is : Kind → types.Kind
kind_is (Numbers n) = types.numbers (numeric_is n)
kind_is String = types.string
kind_is EncodedString = types.encoded_string
kind_is Id = types.id

-- a type without a shape is not listed
abbrev pub shape_is : std.Option Shape → Option types.Shape
shape_is (std.Some (One k)) = some (types.one (kind_is k))
shape_is (std.Some (Many k)) = some (types.many (kind_is k))
shape_is std.None = none
