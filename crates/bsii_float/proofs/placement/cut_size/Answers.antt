-- Below field 127 a float is below 1; from there on its size is significand * 2^(field - 150): below 150 the power divides, below 158 the product
-- stays under 2^31, and beyond it is held to 2^31, as an infinity is. A NaN is 0.
use Rattle.std.proofs.Common.{refl, sym, ◌∙◌, arith, mod-eq_of_lt}
use Rattle.bsii_float.proofs.Coefficient.{size_below, size_fraction, product_fits, size_product, size_nan, size_above}
use Rattle.bsii_float.proofs.placement.cut_size.Goals as goal

pub returns-in-0-to-126 : goal.returns-in-0-to-126
returns-in-0-to-126 c = sym (size_below c.args.bits (omega arith))

pub returns-in-127-to-149 : goal.returns-in-127-to-149
returns-in-127-to-149 c = sym (size_fraction c.args.bits _ (omega arith) (omega arith) refl)

pub returns-in-150-to-157 : goal.returns-in-150-to-157
returns-in-150-to-157 c =
    let fits = product_fits c.args.bits _ (omega arith) refl in
    mod-eq_of_lt (omega (arith, fits)) ∙ sym (size_product c.args.bits _ (omega arith) (omega arith) refl)

pub returns-in_default : goal.returns-in_default
returns-in_default c = sym (size_nan c.args.bits c.if-bits-gt2139095040.true)

pub returns-in_default-2 : goal.returns-in_default-2
returns-in_default-2 c = sym (size_above c.args.bits (omega arith) c.if-bits-gt2139095040.false)
