-- From field 127 to 150 the size is significand / 2^(150 - field), whole if the power divides it. Zero is whole; below 127 other floats are parts
-- of 1, above 150 they are 2^24 at least or not finite: these, and quotients above 10_000_000, are written by their bits.
use Rattle.std.proofs.Common.{sym, arith}
use Rattle.bsii_float.proofs.FloatText.{zero_text, below_text, above_text, unit_is, parted_text, large_text, whole_text}
use Rattle.bsii_float.proofs.whole.whole_number.Goals as goal

pub returns-then-bits-eq0 : goal.returns-then-bits-eq0
returns-then-bits-eq0 c = sym (zero_text c.args.bits c.if-bits-eq0.true)

pub returns-then-field-lt127 : goal.returns-then-field-lt127
returns-then-field-lt127 c = sym (below_text c.args.bits c.if-bits-eq0.false c.if-field-lt127.true)

pub returns-then-field-gt150 : goal.returns-then-field-gt150
returns-then-field-gt150 c = sym (above_text c.args.bits c.if-field-gt150.true)

pub returns-then-significand-unit-ne0 : goal.returns-then-significand-unit-ne0
returns-then-significand-unit-ne0 c =
    sym (parted_text c.args.bits _ c.if-field-lt127.false c.if-field-gt150.false (unit_is _ (omega arith)) c.if-significand-unit-ne0.true)

pub returns-then-size-gt10000000 : goal.returns-then-size-gt10000000
returns-then-size-gt10000000 c =
    sym (large_text c.args.bits _ c.if-field-lt127.false c.if-field-gt150.false (unit_is _ (omega arith)) c.if-size-gt10000000.true)

pub returns : goal.returns
returns c =
    let unit = unit_is _ (omega arith) in
    sym (whole_text c.args.bits _ c.if-field-lt127.false c.if-field-gt150.false unit c.if-significand-unit-ne0.false c.if-size-gt10000000.false)
